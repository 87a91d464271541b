use Rattle.std.proofs.Common.{arith}
use Rattle.render.proofs.Moves.{shift-from-length}
use Rattle.render.proofs.renderer.PosixRenderer.push_shift_from.Goals as goal

pub returns-then-from-to-clause-short : goal.returns-then-from-to-clause-short
returns-then-from-to-clause-short c = shift-from-length c.args.more c.args.less c.args.from c.args.to (omega arith) (omega arith)

pub returns-else-from-to-clause-short : goal.returns-else-from-to-clause-short
returns-else-from-to-clause-short c = shift-from-length c.args.more c.args.less c.args.from c.args.to (omega arith) (omega arith)
