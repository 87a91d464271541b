use Rattle.judging.proofs.Judgements.{judges-insert}
use Rattle.judging.proofs.judging.judge_insert.Goals as goal

pub returns : goal.returns
returns g c =
    judges-insert g.W.WidthTable.columns c.args.window.prompt c.args.window.size c.args.buffer.now c.line.result.now c.args.text.now c.pos.result c.args.count c.cols.result c.measure_insert-ends.result c.held.result c.in_ok-check_insert.ensures c.line.ensures c.pos.ensures c.cols.ensures c.measure_insert-ends.ensures c.held.ensures
