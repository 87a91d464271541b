use Rattle.std.proofs.Common.{rules}
use Rattle.highlight.specs.Partners.{matched-by}
use Rattle.highlight.proofs.brackets.find_matching_bracket.Goals as goal

pub returns-in-Some-Opening-clause-matched : goal.returns-in-Some-Opening-clause-matched
returns-in-Some-Opening-clause-matched c = matched-by c.args.line.now c.args.pos c.args.bracket (search rules)

pub returns-in-Some-Closing-clause-matched : goal.returns-in-Some-Closing-clause-matched
returns-in-Some-Closing-clause-matched c = matched-by c.args.line.now c.args.pos c.args.bracket (search rules)
