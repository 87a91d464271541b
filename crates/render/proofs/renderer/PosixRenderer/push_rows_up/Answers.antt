use Rattle.std.proofs.Common.{◌++◌, length, ap, ◌∙◌, append_assoc, arith}
use Rattle.buffer.proofs.Buffers.{is_taken}
use Rattle.render.proofs.Buffers.{grown}
use Rattle.render.proofs.Moves.{last_row, row_up, rows-up, rows-room}
use Rattle.render.specs.Composing.{composed}
use Rattle.std.specs.List.{repeat}
use Rattle.render.proofs.renderer.PosixRenderer.push_rows_up.Goals as goal

pub unwrap-requires : goal.unwrap-requires
unwrap-requires c = is_taken (composed c.args.self.now ++ repeat c.args.n row_up) c.args.self.now.buffer c.extend_repeated.new.self c.extend_repeated.result c.extend_repeated.ensures (omega (arith, rows-room (composed c.args.self.now) c.args.n))

pub push-requires : goal.push-requires
push-requires c = omega (arith, ap length (grown _ c.args.self.now.buffer c.extend_repeated.new.self c.extend_repeated.result _ c.unwrap.ensures c.extend_repeated.ensures), rows-room (composed c.args.self.now) c.args.n)

pub returns : goal.returns
returns c =
    let before = composed c.args.self.now in
    c.push.ensures ∙ ap (λ x. x ++ last_row) (grown _ c.args.self.now.buffer c.extend_repeated.new.self c.extend_repeated.result _ c.unwrap.ensures c.extend_repeated.ensures) ∙ append_assoc before (repeat c.args.n row_up) last_row ∙ ap (λ x. before ++ x) (rows-up c.args.n)
