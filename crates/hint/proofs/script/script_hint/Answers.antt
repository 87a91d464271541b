use Rattle.std.proofs.Common.{length, take, sym, rules}
use Rattle.std.proofs.lemmas.Bool.{both_ways}
use Rattle.std.proofs.lemmas.Slice.Eq.{bytes_eq-Decides}
use Rattle.hint.specs.Scripts.{captions_of}
use Rattle.hint.proofs.Captions.{first-continues, script-goods}
use Rattle.hint.proofs.script.script_hint.Goals as goal

-- the caption that was found begins with the line
pub returns-in_err-rest-clause-value : goal.returns-in_err-rest-clause-value
returns-in_err-rest-clause-value c =
    let line = c.args.line.now in
    let caption = c.in_ok-first_continuing.field-0.now in
    let k = first-continues line (captions_of c.args.script.now) caption (sym c.in_ok-first_continuing.ensures) in
    absurd (both_ways _ c.in_err-rest.ensures.cases ((bytes_eq-Decides (take (length line) caption) line).1 k.begins))

pub returns-clause-good : goal.returns-clause-good
returns-clause-good c =
    script-goods c.args.script.now c.args.line.now c.args.pos c.then_some.result (search rules)
