use Rattle.std.proofs.Common.{◌≡◌, Some, subst, rules}
use Rattle.lines.specs.Notes.{note_of}
use Rattle.measuring.specs.Measured.{Computes}
use Rattle.measuring.specs.declared.measuring.Window.{Window}
use Rattle.session.proofs.Noticing.{lays-hinted}
use Rattle.session.proofs.session.Session.hinted_layout.Goals as goal

pub returns : goal.returns
returns g c =
    let same : Some c.in-Some.hint.now ≡ note_of c.args.tables.now.hint = search rules in
    rw c.unwrap_or.ensures (lays-hinted g.T.Widths.WidthTable.columns c.args.self.now.prompt c.args.self.now.size c.args.placed c.args.tables.now.hint c.in-Some.hint.now same c.origin.result c.compute_layout.result
    (subst (λ (v : Window). Computes g.T.Widths.WidthTable.columns v.size v.prompt c.args.placed.ends (Some c.in-Some.hint.now) c.compute_layout.result) c.window.ensures c.compute_layout.ensures))
