use Rattle.std.proofs.Common.{arith}
use Rattle.render.proofs.Moves.{move-length}
use Rattle.render.proofs.renderer.PosixRenderer.push_shift.Goals as goal

pub push_move-requires : goal.push_move-requires
push_move-requires c = omega (arith, move-length c.args.final_byte 5 c.args.n (omega arith) (omega arith) (omega arith))
