use Rattle.std.proofs.Common.{subst}
use Rattle.measuring.specs.declared.measuring.Window.{Window}
use Rattle.session.specs.Going.{LaysBare}
use Rattle.session.proofs.session.Session.draw_bare.Goals as goal

pub returns : goal.returns
returns g c = record { layout = c.line_alone-layout.result; note = c.clear.new.self; dropped = c.clear.ensures; laid = subst (λ (v : Window). LaysBare g.T.Widths.WidthTable.columns v.prompt v.size c.args.tables.now.line c.line_alone-layout.result) c.window.ensures c.line_alone-layout.ensures; paints = c.paint.ensures }
