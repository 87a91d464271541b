use Rattle.lines.proofs.Buffers.{sound}
use Rattle.lines.proofs.Rules.{update-fine}
use Rattle.lines.proofs.line_buffer.LineBuffer.update.Goals as goal

pub invariant_of-self : goal.invariant_of-self
invariant_of-self c =
    let line = c.args.line.now in
    let fine = update-fine line c.args.pos c.in_ok-check_update.ensures in
    let taken = rw c.unwrap.ensures at c.set.ensures in
    sound c.set.new.self line c.args.pos taken.1 fine.0 fine.2
