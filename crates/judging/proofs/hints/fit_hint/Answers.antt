use Rattle.std.proofs.Common.{◌≡◌, Some, rules}
use Rattle.judging.proofs.Fitting.{drops-hint, keeps-hint}
use Rattle.lines.specs.Notes.{note_of}
use Rattle.judging.proofs.hints.fit_hint.Goals as goal

pub returns-in-Some-compute_layout : goal.returns-in-Some-compute_layout
returns-in-Some-compute_layout g c =
    let same : Some c.in-Some.text.now ≡ note_of c.args.hint.now = search rules in
    keeps-hint g.W.WidthTable.columns c.args.window.prompt c.args.window.size c.args.line c.args.hint.now c.in-Some.text.now same c.in-Some-compute_layout.layout (rw c.in-Some-compute_layout.is at c.compute_layout.ensures)

pub returns-in-None : goal.returns-in-None
returns-in-None g c =
    let same : Some c.in-Some.text.now ≡ note_of c.args.hint.now = search rules in
    drops-hint g.W.WidthTable.columns c.args.window.prompt c.args.window.size c.args.line c.args.hint.now c.in-Some.text.now same (note_of c.clear.new.self) c.clear.ensures (rw c.in-None.is at c.compute_layout.ensures)
