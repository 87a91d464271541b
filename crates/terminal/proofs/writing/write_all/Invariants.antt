use Rattle.std.proofs.Common.{◌+◌, ◌-◌, ◌*◌, length}
use Rattle.terminal.proofs.Writes.{Going}
use Rattle.terminal.proofs.writing.write_all.Given as goal

-- how far the write has come
abbrev pub invariant-loop-rest : goal.invariant-loop-rest
invariant-loop-rest g l = Going g.T.Terminal.answered l.bytes l.initial.terminal l.rest l.interruptions l.terminal

abbrev pub decreases-loop-rest : goal.decreases-loop-rest
decreases-loop-rest g l = 8 * length l.rest + (8 - l.interruptions)
