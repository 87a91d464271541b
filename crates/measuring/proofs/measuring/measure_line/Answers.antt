use Rattle.measuring.proofs.Lining.{measures-insert}
use Rattle.measuring.proofs.measuring.measure_line.Goals as goal

pub returns : goal.returns
returns g c = measures-insert g.W.WidthTable.columns c.args.cols c.args.prompt c.args.line.now c.args.pos _ c.measure_insert.ensures
