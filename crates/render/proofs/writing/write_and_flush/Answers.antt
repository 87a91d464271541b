use Rattle.std.proofs.Common.{[], refl}
use Rattle.page.specs.Law.{done}
use Rattle.render.proofs.writing.write_and_flush.Goals as goal

pub returns : goal.returns
returns g c = c.write_next.ensures c.args.terminal.now [] refl done
