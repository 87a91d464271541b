use Rattle.measuring.proofs.Lining.{insert-no-front, insert-no-rest, insert-no-text, inserts}
use Rattle.measuring.proofs.measuring.measure_insert.Goals as goal

pub returns-in_err-front : goal.returns-in_err-front
returns-in_err-front g c =
    rw c.from_residual.ensures
    (insert-no-front g.W.WidthTable.columns c.args.cols c.args.prompt c.args.line.now c.args.pos c.args.text.now c.args.count c.in_err-front.ensures)

pub returns-in_err-cursor : goal.returns-in_err-cursor
returns-in_err-cursor g c =
    rw c.from_residual-in_err-cursor.ensures
    (insert-no-text g.W.WidthTable.columns c.args.cols c.args.prompt c.args.line.now c.args.pos c.args.text.now c.args.count c.in_ok-front.front c.in_ok-front.ensures c.in_err-cursor.ensures)

pub returns-in_err-end : goal.returns-in_err-end
returns-in_err-end g c =
    rw c.from_residual-in_err-end.ensures
    (insert-no-rest g.W.WidthTable.columns c.args.cols c.args.prompt c.args.line.now c.args.pos c.args.text.now c.args.count c.in_ok-front.front c.in_ok-cursor.cursor c.in_ok-front.ensures c.in_ok-cursor.ensures c.in_err-end.ensures)

pub returns : goal.returns
returns g c =
    inserts g.W.WidthTable.columns c.args.cols c.args.prompt c.args.line.now c.args.pos c.args.text.now c.args.count c.in_ok-front.front c.in_ok-cursor.cursor c.in_ok-end.end c.in_ok-front.ensures c.in_ok-cursor.ensures c.in_ok-end.ensures
