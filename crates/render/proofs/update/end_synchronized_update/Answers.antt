use Rattle.std.proofs.Common.{[], ◌∷◌}
use Rattle.render.proofs.Writes.{written_none}
use Rattle.screen.specs.Output.{release_bytes}
use Rattle.render.proofs.update.end_synchronized_update.Goals as goal

pub returns : goal.returns
returns g c = written_none g.T.Terminal.answered c.args.terminal.now c.args.update.held (release_bytes ∷ []) c.if-held.false
