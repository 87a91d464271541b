use Rattle.std.proofs.Common.{◌-◌, ◌≤◌, ap, arith}
use Rattle.render.proofs.Buffers.{push-length}
use Rattle.render.proofs.Moves.{some-length}
use Rattle.render.specs.Composing.{composed, some_move}
use Rattle.render.proofs.renderer.PosixRenderer.clear_old_rows.Goals as goal

pub push_some_move-requires : goal.push_some_move-requires
push_some_move-requires c =
    let end = c.end-old_rows.result in
    let cursor = c.cursor-current_row.result in
    let low : end.row ≤ 199 = omega (arith, ap (λ p. p.row) c.end-old_rows.ensures, c.args.layout.now.low) in
    omega (arith, some-length 66 (end.row - cursor.row) (omega arith), c.requires)

pub push_rows_up-requires : goal.push_rows_up-requires
push_rows_up-requires c =
    let end = c.end-old_rows.result in
    let cursor = c.cursor-current_row.result in
    let low : end.row ≤ 199 = omega (arith, ap (λ p. p.row) c.end-old_rows.ensures, c.args.layout.now.low) in
    omega (arith, some-length 66 (end.row - cursor.row) (omega arith), push-length (composed c.push_some_move.new.self) (composed c.args.self.now) (some_move 66 (end.row - cursor.row)) c.push_some_move.ensures, c.requires)
