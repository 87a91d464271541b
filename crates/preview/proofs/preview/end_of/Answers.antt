use Rattle.std.proofs.Common.{le_trans}
use Rattle.preview.proofs.Ending.{no-first, no_second, at-end}
use Rattle.preview.proofs.preview.end_of.Goals as goal

pub returns-in_err-behind : goal.returns-in_err-behind
returns-in_err-behind g c =
    no-first g.W.WidthTable.columns c.args.cols (λ x. le_trans (g.met.W.WidthTable.narrow x) c.requires) c.start-start.result c.args.first.now c.args.second.now c.advance.result _ c.start-start.ensures c.advance.ensures c.in_err-behind.was

pub returns-in_err-end : goal.returns-in_err-end
returns-in_err-end g c =
    no_second g.W.WidthTable.columns c.args.cols (λ x. le_trans (g.met.W.WidthTable.narrow x) c.requires) c.start-start.result _ c.args.first.now c.args.second.now c.advance.result c.advance-2.result _ c.start-start.ensures c.advance.ensures c.in_ok-behind.was c.advance-2.ensures c.in_err-end.was

pub returns : goal.returns
returns g c =
    at-end g.W.WidthTable.columns c.args.cols (λ x. le_trans (g.met.W.WidthTable.narrow x) c.requires) c.start-start.result _ _ c.args.first.now c.args.second.now c.advance.result c.advance-2.result c.place.result c.start-start.ensures c.advance.ensures c.in_ok-behind.was c.advance-2.ensures c.in_ok-end.was c.place.ensures
