use Rattle.std.proofs.Common.{sym, subst}
use Rattle.std.proofs.lemmas.Result.{err_from_is_err_and}
use Rattle.page.specs.Acts.{clear}
use Rattle.page.specs.Rules.{Outcome}
use Rattle.session.proofs.Acting.{refused-acted}
use Rattle.session.proofs.Clearing.{cleared-acted}
use Rattle.session.specs.Acting.{Acted, state_of, world_of}
use Rattle.session.proofs.session.Session.clear.Goals as goal

pub returns : goal.returns
returns g c =
    subst (λ (o : Outcome). Acted (world_of g.T.Terminal.screen g.T.Terminal.extent g.T.Terminal.answered g.T.Widths.WidthTable.columns g.H.Highlighter.lights g.H.Highlighter.lights_prompt g.H.Highlighter.lights_hint g.H.Highlighter.heeds (g.N.Hinter.hints c.args.hinter.now)) (state_of c.args.terminal.now c.args.highlighter.now c.args.self.now c.args.tables.now) clear o (state_of c.clear_line.new.terminal c.clear_line.new.highlighter c.clear_line.new.self c.clear_line.new.tables)) (sym c.outcome_of.ensures)
    (cleared-acted (world_of g.T.Terminal.screen g.T.Terminal.extent g.T.Terminal.answered g.T.Widths.WidthTable.columns g.H.Highlighter.lights g.H.Highlighter.lights_prompt g.H.Highlighter.lights_hint g.H.Highlighter.heeds (g.N.Hinter.hints c.args.hinter.now)) (state_of c.args.terminal.now c.args.highlighter.now c.args.self.now c.args.tables.now) (state_of c.clear_line.new.terminal c.clear_line.new.highlighter c.clear_line.new.self c.clear_line.new.tables) c.in_ok-placed.placed c.clear_line.result c.in_ok-placed.ensures c.clear_line.ensures)

pub returns-in_err-placed : goal.returns-in_err-placed
returns-in_err-placed g c =
    let p = err_from_is_err_and c.from_residual.result c.from_residual.ensures.1 in
    rw (p.1, p.2) (refused-acted (world_of g.T.Terminal.screen g.T.Terminal.extent g.T.Terminal.answered g.T.Widths.WidthTable.columns g.H.Highlighter.lights g.H.Highlighter.lights_prompt g.H.Highlighter.lights_hint g.H.Highlighter.heeds (g.N.Hinter.hints c.args.hinter.now)) (state_of c.args.terminal.now c.args.highlighter.now c.args.self.now c.args.tables.now) clear c.in_err-placed.field-0.0 (λ s. c.in_err-placed.ensures.refuses s))
