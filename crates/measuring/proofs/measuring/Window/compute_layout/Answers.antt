use Rattle.std.proofs.Common.{ap}
use Rattle.measuring.proofs.Fitting.{computes-some, computes_none}
use Rattle.std.specs.Option.{option_map}
use Rattle.measuring.proofs.measuring.Window.compute_layout.Goals.{in-Some+in_ok-end-in-Some, in-None}
use Rattle.measuring.proofs.measuring.Window.compute_layout.Goals as goal

pub returns : goal.returns
returns g c = elim c.match-note.branch [
  | in-Some+in_ok-end-in-Some w ↦ computes-some g.W.WidthTable.columns g.met.W.WidthTable.narrow c.args.self.size c.args.self.prompt c.args.line c.match-note.end c.new.result _ c.cols-cols.result c.rows.result c.cols-cols.ensures c.rows.ensures c.new.ensures
      _ _ _ (ap (option_map (λ x. x.now)) w.in-Some.is) w.end-is c.cols-cols.ensures w.in_ok-end-in-Some.ensures
  | in-None w ↦ computes_none g.W.WidthTable.columns g.met.W.WidthTable.narrow c.args.self.size c.args.self.prompt c.args.line c.match-note.end c.new.result _ c.cols-cols.result c.rows.result c.cols-cols.ensures c.rows.ensures c.new.ensures
      (ap (option_map (λ x. x.now)) w.in-None.is) w.end-is
]
