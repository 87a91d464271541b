use Rattle.std.proofs.Common.{rules}
use Rattle.render.proofs.Writes.{followed}
use Rattle.render.proofs.writing.write_next.Goals as goal

pub returns : goal.returns
returns g c = followed g.T.Terminal.answered c.args.terminal.now c.write_all.new.terminal c.args.bytes.now c.args.before c.write_all.result c.map_err.result c.write_all.ensures.ends c.map_err.ensures.cases (λ e b p. search rules)
