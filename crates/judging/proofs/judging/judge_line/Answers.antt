use Rattle.judging.proofs.Judgements.{judges-line}
use Rattle.judging.proofs.judging.judge_line.Goals as goal

pub returns : goal.returns
returns g c =
    judges-line g.W.WidthTable.columns c.args.window.prompt c.args.window.size c.args.buffer.now c.line.result.now c.pos.result c.cols-cols.result c.measure_line-ends.result c.held.result c.line.ensures c.pos.ensures c.cols-cols.ensures c.measure_line-ends.ensures c.held.ensures
