use Rattle.std.proofs.Common.{rules, ◌==◌}
use Rattle.std.proofs.lemmas.Iterator.Search.{find_from_yields_List}
use Rattle.std.proofs.lemmas.Iterator.Splits.{YieldsList-from_slice_split}
use borrow.Author.Tests.{tests}
use Rattle.hint.specs.Scripts.{goes_on}
use Rattle.hint.proofs.script.first_continuing.Goals as goal

pub returns : goal.returns
returns c =
    find_from_yields_List (goes_on c.args.line.now) _ _ c.find.result c.find.ensures.ran (YieldsList-from_slice_split _ (λ b. b == 10) c.args.script.now c.split.ensures.rest c.split.ensures.done c.split.ensures.closure (λ x b q k. search (rules, tests))) (λ x b q k. search (rules, tests))
