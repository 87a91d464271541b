use Rattle.std.proofs.Common.{refl}
use Rattle.lines.proofs.Buffers.{line-good, sound}
use Rattle.lines.proofs.Rules.{place-fine}
use Rattle.lines.specs.Lines.{line_of}
use Rattle.lines.proofs.line_buffer.LineBuffer.set_pos.Goals as goal

pub invariant_of-self : goal.invariant_of-self
invariant_of-self c =
    let b = c.args.self.now in
    sound b.line (line_of b) c.args.pos refl (line-good b) (place-fine (line_of b) c.args.pos c.in_ok-check_pos.ensures)
