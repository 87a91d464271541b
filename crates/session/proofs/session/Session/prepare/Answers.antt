use Rattle.std.proofs.Common.{subst}
use Rattle.judging.specs.Fitting.{FitsHint}
use Rattle.lines.specs.Notes.{note_of}
use Rattle.measuring.specs.declared.measuring.Window.{Window}
use Rattle.session.proofs.Preparing.{prepared}
use Rattle.session.proofs.session.Session.prepare.Goals as goal
use Rattle.session.specs.Acting.{world_of}

pub returns : goal.returns
returns g c =
    prepared (world_of g.T.Terminal.screen g.T.Terminal.extent g.T.Terminal.answered g.T.Widths.WidthTable.columns g.H.Highlighter.lights g.H.Highlighter.lights_prompt g.H.Highlighter.lights_hint g.H.Highlighter.heeds (g.N.Hinter.hints c.args.hinter.now))
    c.args.placed c.args.highlighter.now c.args.self.now c.args.tables.now c.fit_hint-layout.result c.highlight_char.new.self c.highlight_char.new.highlighter c.fill.new.self c.fit_hint-layout.new.hint c.copy_from.new.self c.line.result.now c.pos.result c.highlight_char.result
    c.line.ensures c.pos.ensures c.fill.ensures (subst (λ (v : Window). FitsHint g.T.Widths.WidthTable.columns v.prompt v.size c.args.placed (note_of c.fill.new.self) c.fit_hint-layout.result (note_of c.fit_hint-layout.new.hint)) c.window.ensures c.fit_hint-layout.ensures) c.copy_from.ensures c.highlight_char.ensures
