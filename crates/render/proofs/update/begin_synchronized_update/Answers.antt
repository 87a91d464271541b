use Rattle.std.proofs.Common.{[], ◌∷◌}
use Rattle.render.proofs.Writes.{written_none}
use Rattle.screen.specs.Output.{hold_bytes}
use Rattle.render.proofs.update.begin_synchronized_update.Goals as goal

pub returns-else-holds-clause-written : goal.returns-else-holds-clause-written
returns-else-holds-clause-written g c = written_none g.T.Terminal.answered c.args.terminal.now c.args.holds (hold_bytes ∷ []) c.if-holds.false
