-- `split_line` meets its contract. Assumes nothing.
use Rattle.std.proofs.Common.{sym, subst}
use Rattle.std.proofs.lemmas.List.{take_rest}
use Rattle.text.proofs.LineEnds.{Told, lines-told}
use Rattle.text.proofs.lines.split_line.Goals as goal

pub returns-in-Some : goal.returns-in-Some
returns-in-Some c = rw take_rest (subst (Told c.args.bytes.now) (sym c.in-Some.ensures) (lines-told c.args.bytes.now c.requires))

pub returns-in-None : goal.returns-in-None
returns-in-None c = subst (Told c.args.bytes.now) (sym c.in-None.ensures) (lines-told c.args.bytes.now c.requires)
