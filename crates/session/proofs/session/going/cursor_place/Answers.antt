use Rattle.session.proofs.Going.{cursor-lost, cursor-reached, cursor-unreached}
use Rattle.session.proofs.session.going.cursor_place.Goals as goal

pub returns-in_default : goal.returns-in_default
returns-in_default g c =
    cursor-unreached g.W.WidthTable.columns g.met.W.WidthTable.narrow c.args.window.prompt c.args.window.size c.args.line.now c.front.result.now c.cols.result c.walk_text.result c.front.ensures c.cols.ensures c.walk_text.ensures
    c.args.window.prompt c.in_default.is

pub returns-in-Some-place : goal.returns-in-Some-place
returns-in-Some-place g c =
    cursor-reached g.W.WidthTable.columns g.met.W.WidthTable.narrow c.args.window.prompt c.args.window.size c.args.line.now c.front.result.now c.cols.result c.walk_text.result c.front.ensures c.cols.ensures c.walk_text.ensures
    c.in-Some.end c.in-Some.is c.start.result c.start.ensures c.cols-2.result c.cols-2.ensures c.place.result c.place.ensures c.in-Some-place.place c.in-Some-place.is

pub returns-in-None : goal.returns-in-None
returns-in-None g c =
    cursor-lost g.W.WidthTable.columns g.met.W.WidthTable.narrow c.args.window.prompt c.args.window.size c.args.line.now c.front.result.now c.cols.result c.walk_text.result c.front.ensures c.cols.ensures c.walk_text.ensures
    c.in-Some.end c.in-Some.is c.start.result c.start.ensures c.cols-2.result c.cols-2.ensures c.place.result c.place.ensures c.in-Some.end c.in-None.is
