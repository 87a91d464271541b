use Rattle.std.proofs.Common.{[], refl}
use Rattle.std.proofs.lemmas.Result.{err_from_is_err_and}
use Rattle.page.specs.Acts.{insert}
use Rattle.session.proofs.Acting.{refused-acted}
use Rattle.session.proofs.Anew.{line_refused}
use Rattle.session.proofs.Letters.{insert-anew, insert-direct, insert-never}
use Rattle.session.proofs.Redrawing.{painted-left}
use Rattle.session.proofs.session.Session.insert.Goals as goal
use Rattle.session.specs.Acting.{state_of, world_of}

pub returns-in_err-placed : goal.returns-in_err-placed
returns-in_err-placed g c =
    let p = err_from_is_err_and c.from_residual.result c.from_residual.ensures.1 in
    rw (p.1, p.2) (refused-acted (world_of g.T.Terminal.screen g.T.Terminal.extent g.T.Terminal.answered g.T.Widths.WidthTable.columns g.H.Highlighter.lights g.H.Highlighter.lights_prompt g.H.Highlighter.lights_hint g.H.Highlighter.heeds (g.N.Hinter.hints c.args.hinter.now))
    (state_of c.args.terminal.now c.args.highlighter.now c.args.self.now c.args.tables.now)
    (insert c.args.text.now c.args.count) c.in_err-placed.field-0.0 c.in_err-placed.ensures.refuses)

pub returns-in_err-insert : goal.returns-in_err-insert
returns-in_err-insert g c =
    let p = err_from_is_err_and c.from_residual-in_err-insert.result c.from_residual-in_err-insert.ensures.1 in
    rw (p.1, p.2) (line_refused (world_of g.T.Terminal.screen g.T.Terminal.extent g.T.Terminal.answered g.T.Widths.WidthTable.columns g.H.Highlighter.lights g.H.Highlighter.lights_prompt g.H.Highlighter.lights_hint g.H.Highlighter.heeds (g.N.Hinter.hints c.args.hinter.now))
    (state_of c.args.terminal.now c.args.highlighter.now c.args.self.now c.args.tables.now)
    (insert c.args.text.now c.args.count) c.in_err-insert.field-0.0 c.insert.new.self c.in_err-insert.ensures.1
    (insert-never (world_of g.T.Terminal.screen g.T.Terminal.extent g.T.Terminal.answered g.T.Widths.WidthTable.columns g.H.Highlighter.lights g.H.Highlighter.lights_prompt g.H.Highlighter.lights_hint g.H.Highlighter.heeds (g.N.Hinter.hints c.args.hinter.now))
    (state_of c.args.terminal.now c.args.highlighter.now c.args.self.now c.args.tables.now)
    (state_of c.args.terminal.now c.args.highlighter.now c.args.self.now c.args.tables.now)
    c.args.text.now c.args.count c.in_ok-placed.placed c.in_ok-placed.ensures c.in_err-insert.field-0.0 c.in_err-insert.ensures.0))

pub returns-then-writes_directly : goal.returns-then-writes_directly
returns-then-writes_directly g c =
    insert-direct (world_of g.T.Terminal.screen g.T.Terminal.extent g.T.Terminal.answered g.T.Widths.WidthTable.columns g.H.Highlighter.lights g.H.Highlighter.lights_prompt g.H.Highlighter.lights_hint g.H.Highlighter.heeds (g.N.Hinter.hints c.args.hinter.now))
    (state_of c.args.terminal.now c.args.highlighter.now c.args.self.now c.args.tables.now)
    (state_of c.type_text.new.terminal c.prepare-layout.new.highlighter c.type_text.new.self c.prepare-layout.new.tables)
    c.args.text.now c.args.count c.in_ok-placed.placed c.in_ok-placed.ensures c.insert.new.self c.in_ok-insert.ensures.1 c.prepare-layout.result c.prepare-layout.new.self c.prepare-layout.new.tables c.type_text.result c.prepare-layout.ensures
    (record { session = c.type_text.ensures.session; prompt = refl; line = refl; note = refl; hint = refl }) (record { prompt = []; line = []; note = [] })
    c.columns_of-width.result c.columns_of-width.ensures c.stays_in_row-in_row.result c.writes_directly.result c.stays_in_row-in_row.ensures c.writes_directly.ensures
    c.if-writes_directly.true c.type_text.ensures.written refl c.outcome_of.result c.outcome_of.ensures

pub returns-else-writes_directly : goal.returns-else-writes_directly
returns-else-writes_directly g c =
    insert-anew (world_of g.T.Terminal.screen g.T.Terminal.extent g.T.Terminal.answered g.T.Widths.WidthTable.columns g.H.Highlighter.lights g.H.Highlighter.lights_prompt g.H.Highlighter.lights_hint g.H.Highlighter.heeds (g.N.Hinter.hints c.args.hinter.now))
    (state_of c.args.terminal.now c.args.highlighter.now c.args.self.now c.args.tables.now)
    (state_of c.paint.new.terminal c.prepare-layout.new.highlighter c.paint.new.self c.paint.new.tables)
    c.args.text.now c.args.count c.in_ok-placed.placed c.in_ok-placed.ensures c.insert.new.self c.in_ok-insert.ensures.1 c.prepare-layout.result c.prepare-layout.new.self c.prepare-layout.new.tables c.paint.result c.prepare-layout.ensures
    (painted-left c.paint.ensures) c.paint.ensures.drew.styles
    c.columns_of-width.result c.columns_of-width.ensures c.stays_in_row-in_row.result c.writes_directly.result c.stays_in_row-in_row.ensures c.writes_directly.ensures
    c.if-writes_directly.false c.paint.ensures.drew.written c.paint.ensures.drew.bytes c.paint.ensures.drew.styled c.outcome_of-else-writes_directly.result c.outcome_of-else-writes_directly.ensures
