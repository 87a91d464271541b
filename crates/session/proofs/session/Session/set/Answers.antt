use Rattle.std.proofs.lemmas.Result.{err_from_is_err_and}
use Rattle.page.specs.Acts.{set}
use Rattle.session.proofs.Acting.{refused-acted}
use Rattle.session.proofs.Anew.{line_refused, set-acted, set-never}
use Rattle.session.proofs.session.Session.set.Goals as goal
use Rattle.session.specs.Acting.{state_of, world_of}

pub returns-in_err-placed : goal.returns-in_err-placed
returns-in_err-placed g c =
    let p = err_from_is_err_and c.from_residual.result c.from_residual.ensures.1 in
    rw (p.1, p.2) (refused-acted (world_of g.T.Terminal.screen g.T.Terminal.extent g.T.Terminal.answered g.T.Widths.WidthTable.columns g.H.Highlighter.lights g.H.Highlighter.lights_prompt g.H.Highlighter.lights_hint g.H.Highlighter.heeds (g.N.Hinter.hints c.args.hinter.now))
    (state_of c.args.terminal.now c.args.highlighter.now c.args.self.now c.args.tables.now)
    (set c.args.line.now c.args.pos) c.in_err-placed.field-0.0 c.in_err-placed.ensures.refuses)

pub returns-in_err-update : goal.returns-in_err-update
returns-in_err-update g c =
    let p = err_from_is_err_and c.from_residual-in_err-update.result c.from_residual-in_err-update.ensures.1 in
    rw (p.1, p.2) (line_refused (world_of g.T.Terminal.screen g.T.Terminal.extent g.T.Terminal.answered g.T.Widths.WidthTable.columns g.H.Highlighter.lights g.H.Highlighter.lights_prompt g.H.Highlighter.lights_hint g.H.Highlighter.heeds (g.N.Hinter.hints c.args.hinter.now))
    (state_of c.args.terminal.now c.args.highlighter.now c.args.self.now c.args.tables.now)
    (set c.args.line.now c.args.pos) c.in_err-update.field-0.0 c.update.new.self c.in_err-update.ensures.1
    (set-never (world_of g.T.Terminal.screen g.T.Terminal.extent g.T.Terminal.answered g.T.Widths.WidthTable.columns g.H.Highlighter.lights g.H.Highlighter.lights_prompt g.H.Highlighter.lights_hint g.H.Highlighter.heeds (g.N.Hinter.hints c.args.hinter.now))
    (state_of c.args.terminal.now c.args.highlighter.now c.args.self.now c.args.tables.now)
    c.args.line.now c.args.pos c.in_ok-placed.placed c.in_ok-placed.ensures c.in_err-update.field-0.0 c.in_err-update.ensures.0))

pub returns : goal.returns
returns g c =
    set-acted (world_of g.T.Terminal.screen g.T.Terminal.extent g.T.Terminal.answered g.T.Widths.WidthTable.columns g.H.Highlighter.lights g.H.Highlighter.lights_prompt g.H.Highlighter.lights_hint g.H.Highlighter.heeds (g.N.Hinter.hints c.args.hinter.now))
    (state_of c.args.terminal.now c.args.highlighter.now c.args.self.now c.args.tables.now)
    c.args.line.now c.args.pos c.in_ok-placed.placed c.in_ok-placed.ensures
    (state_of c.refresh_line.new.terminal c.refresh_line.new.highlighter c.refresh_line.new.self c.refresh_line.new.tables)
    c.refresh_line.result c.outcome_of.result c.outcome_of.ensures c.update.new.self c.in_ok-update.ensures.1 c.refresh_line.ensures
