use Rattle.std.proofs.Common.{take, Ok}
use Rattle.render.specs.Numbering.{FollowAll, bytes_of}
use Rattle.render.proofs.writing.write_pieces.Given as goal

abbrev pub invariant-loop-number : goal.invariant-loop-number
invariant-loop-number g l = FollowAll g.T.Terminal.answered l.before l.initial.terminal (take l.number (bytes_of l.pieces)) (Ok tt) l.terminal
