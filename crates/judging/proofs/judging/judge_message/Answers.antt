use Rattle.judging.proofs.Judgements.{message-laid, message-unmeasured}
use Rattle.judging.proofs.judging.judge_message.Goals as goal

pub returns-in_err-ends : goal.returns-in_err-ends
returns-in_err-ends g c =
    message-unmeasured g.W.WidthTable.columns c.args.window.prompt c.args.window.size c.args.buffer.now c.line.result.now c.args.text.now c.pos.result c.cols-cols.result c.in_ok-check.ensures c.line.ensures c.pos.ensures c.cols-cols.ensures _ (rw c.in_err-ends.ensures.ok_part at c.measure_line.ensures)

pub returns : goal.returns
returns g c =
    rw c.ok_or-2.ensures.value
    (message-laid g.W.WidthTable.columns c.args.window.prompt c.args.window.size c.args.buffer.now c.line.result.now c.args.text.now c.pos.result c.cols-cols.result c.in_ok-check.ensures c.line.ensures c.pos.ensures c.cols-cols.ensures c.in_ok-ends.ends c.compute_layout.result (rw c.in_ok-ends.ensures.ok_part at c.measure_line.ensures) c.compute_layout.ensures)
