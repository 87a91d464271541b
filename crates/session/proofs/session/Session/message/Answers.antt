use Rattle.std.proofs.lemmas.Result.{err_from_is_err_and}
use Rattle.session.proofs.Messaging.{message-acted, message-refused, message-unset}
use Rattle.session.proofs.session.Session.message.Goals as goal
use Rattle.session.specs.Acting.{state_of, world_of}

pub returns-in_err-layout : goal.returns-in_err-layout
returns-in_err-layout g c hints =
    let p = err_from_is_err_and c.from_residual.result c.from_residual.ensures.1 in
    rw (p.1, p.2) (message-refused (world_of g.T.Terminal.screen g.T.Terminal.extent g.T.Terminal.answered g.T.Widths.WidthTable.columns g.H.Highlighter.lights g.H.Highlighter.lights_prompt g.H.Highlighter.lights_hint g.H.Highlighter.heeds hints)
    (state_of c.args.terminal.now c.args.highlighter.now c.args.self.now c.args.tables.now) c.args.text.now c.in_err-layout.field-0.0 c.in_err-layout.ensures)

pub returns-in_err-set : goal.returns-in_err-set
returns-in_err-set g c hints =
    let p = err_from_is_err_and c.from_residual-in_err-set.result c.from_residual-in_err-set.ensures.1 in
    rw (p.1, p.2) (message-unset (world_of g.T.Terminal.screen g.T.Terminal.extent g.T.Terminal.answered g.T.Widths.WidthTable.columns g.H.Highlighter.lights g.H.Highlighter.lights_prompt g.H.Highlighter.lights_hint g.H.Highlighter.heeds hints)
    (state_of c.args.terminal.now c.args.highlighter.now c.args.self.now c.args.tables.now) c.args.text.now c.in_ok-layout.layout c.in_ok-layout.ensures c.in_err-set.field-0.0 c.set.new.self c.in_err-set.ensures)

pub returns : goal.returns
returns g c hints =
    message-acted (world_of g.T.Terminal.screen g.T.Terminal.extent g.T.Terminal.answered g.T.Widths.WidthTable.columns g.H.Highlighter.lights g.H.Highlighter.lights_prompt g.H.Highlighter.lights_hint g.H.Highlighter.heeds hints)
    (state_of c.args.terminal.now c.args.highlighter.now c.args.self.now c.args.tables.now) c.args.text.now c.in_ok-layout.layout c.in_ok-layout.ensures
    (state_of c.paint.new.terminal c.highlight_char.new.highlighter c.paint.new.self c.paint.new.tables) c.outcome_of.result c.paint.result c.in_ok-set.field-0 c.set.new.self c.clear.new.self c.highlight_char.result c.highlight_char.new.self
    c.outcome_of.ensures c.in_ok-set.ensures c.clear.ensures c.highlight_char.ensures c.paint.ensures
