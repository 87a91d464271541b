use Rattle.std.proofs.Common.{Ok, Err, subst}
use Rattle.judging.specs.Judgements.{JudgesLine}
use Rattle.lines.specs.Lines.{line_of}
use Rattle.measuring.specs.declared.measuring.Window.{Window}
use Rattle.session.proofs.Creating.{drawn-created, size-created, tall-created}
use Rattle.session.specs.Acting.{state_of, world_of}
use Rattle.std.proofs.lemmas.Bool.Decides.{not_from_Decides}
use Rattle.session.proofs.session.Session.start.Goals as goal

pub returns-in-Ok : goal.returns-in-Ok
returns-in-Ok g c setup b fresh tabled =
    drawn-created (world_of g.T.Terminal.screen g.T.Terminal.extent g.T.Terminal.answered g.T.Widths.WidthTable.columns g.H.Highlighter.lights g.H.Highlighter.lights_prompt g.H.Highlighter.lights_hint g.H.Highlighter.heeds (g.N.Hinter.hints c.args.hinter.now)) (state_of c.args.terminal.now c.args.highlighter.now c.args.self.now c.args.tables.now) setup b fresh tabled (c.eq-same.ensures.same.0 c.if-not-same.false) c.in-Ok.placed (subst (λ (v : Window). JudgesLine g.T.Widths.WidthTable.columns v.prompt v.size (line_of c.args.tables.now.line) c.args.tables.now.line.pos (Ok c.in-Ok.placed)) c.window.ensures c.in-Ok.ensures) (state_of c.refresh_line.new.terminal c.refresh_line.new.highlighter c.refresh_line.new.self c.refresh_line.new.tables) c.refresh_line.result c.refresh_line.ensures c.outcome_of.result c.outcome_of.ensures

pub returns-in-Err : goal.returns-in-Err
returns-in-Err g c setup b fresh tabled = tall-created (world_of g.T.Terminal.screen g.T.Terminal.extent g.T.Terminal.answered g.T.Widths.WidthTable.columns g.H.Highlighter.lights g.H.Highlighter.lights_prompt g.H.Highlighter.lights_hint g.H.Highlighter.heeds (g.N.Hinter.hints c.args.hinter.now)) (state_of c.args.terminal.now c.args.highlighter.now c.args.self.now c.args.tables.now) setup b fresh tabled (c.eq-same.ensures.same.0 c.if-not-same.false) c.in-Err.refusal (subst (λ (v : Window). JudgesLine g.T.Widths.WidthTable.columns v.prompt v.size (line_of c.args.tables.now.line) c.args.tables.now.line.pos (Err c.in-Err.refusal)) c.window.ensures c.in-Err.ensures)

pub returns-then-not-same : goal.returns-then-not-same
returns-then-not-same g c setup b fresh tabled = size-created (world_of g.T.Terminal.screen g.T.Terminal.extent g.T.Terminal.answered g.T.Widths.WidthTable.columns g.H.Highlighter.lights g.H.Highlighter.lights_prompt g.H.Highlighter.lights_hint g.H.Highlighter.heeds (g.N.Hinter.hints c.args.hinter.now)) (state_of c.args.terminal.now c.args.highlighter.now c.args.self.now c.args.tables.now) setup b fresh tabled (not_from_Decides c.eq-same.result c.eq-same.ensures.same c.if-not-same.true)
