use Rattle.std.proofs.Common.{sym, ap, ◌∙◌, subst}
use Rattle.std.proofs.lemmas.Result.{err_from_is_err_and}
use Rattle.layout.specs.declared.layout.Position.{Position}
use Rattle.session.proofs.Moving.{go-moved, go-refused, go-unmoved, go-unset, places-apart}
use Rattle.session.proofs.Sameness.{places-one, places-two}
use Rattle.session.proofs.session.Session.go.Goals as goal
use Rattle.measuring.specs.declared.measuring.Window.{Window}
use Rattle.session.specs.Acting.{state_of, world_of}
use Rattle.session.specs.Going.{CursorAt}

pub returns-in_err-judge_go : goal.returns-in_err-judge_go
returns-in_err-judge_go g c hints =
    let p = err_from_is_err_and c.from_residual.result c.from_residual.ensures.1 in
    rw (p.1, p.2) (go-refused (world_of g.T.Terminal.screen g.T.Terminal.extent g.T.Terminal.answered g.T.Widths.WidthTable.columns g.H.Highlighter.lights g.H.Highlighter.lights_prompt g.H.Highlighter.lights_hint g.H.Highlighter.heeds hints)
    (state_of c.args.terminal.now c.args.highlighter.now c.args.self.now c.args.tables.now) c.args.pos c.in_err-judge_go.field-0.0 c.in_err-judge_go.ensures)

pub returns-in_err-set_pos : goal.returns-in_err-set_pos
returns-in_err-set_pos g c hints =
    let p = err_from_is_err_and c.from_residual-in_err-set_pos.result c.from_residual-in_err-set_pos.ensures.1 in
    rw (p.1, p.2) (go-unset (world_of g.T.Terminal.screen g.T.Terminal.extent g.T.Terminal.answered g.T.Widths.WidthTable.columns g.H.Highlighter.lights g.H.Highlighter.lights_prompt g.H.Highlighter.lights_hint g.H.Highlighter.heeds hints)
    (state_of c.args.terminal.now c.args.highlighter.now c.args.self.now c.args.tables.now) c.args.pos c.in_ok-judge_go.field-0 c.in_ok-judge_go.ensures c.in_err-set_pos.field-0.0 c.set_pos.new.self c.in_err-set_pos.ensures)

pub returns-then-eq : goal.returns-then-eq
returns-then-eq g c hints =
    let same = places-one c.cursor_place-place.result c.cursor.result c.if-eq.ensures ∙ c.cursor.ensures in
    go-unmoved (world_of g.T.Terminal.screen g.T.Terminal.extent g.T.Terminal.answered g.T.Widths.WidthTable.columns g.H.Highlighter.lights g.H.Highlighter.lights_prompt g.H.Highlighter.lights_hint g.H.Highlighter.heeds hints)
    (state_of c.args.terminal.now c.args.highlighter.now c.args.self.now c.args.tables.now) c.args.pos c.in_ok-judge_go.field-0 c.in_ok-judge_go.ensures c.in_ok-set_pos.field-0 c.set_pos.new.self c.in_ok-set_pos.ensures c.cursor_place-place.result (subst (λ (v : Window). CursorAt g.T.Widths.WidthTable.columns v.prompt v.size c.set_pos.new.self c.cursor_place-place.result) c.window.ensures c.cursor_place-place.ensures)
    (ap (λ (p : Position). p.row) same) (ap (λ (p : Position). p.col) same)

pub returns : goal.returns
returns g c hints =
    go-moved (world_of g.T.Terminal.screen g.T.Terminal.extent g.T.Terminal.answered g.T.Widths.WidthTable.columns g.H.Highlighter.lights g.H.Highlighter.lights_prompt g.H.Highlighter.lights_hint g.H.Highlighter.heeds hints)
    (state_of c.args.terminal.now c.args.highlighter.now c.args.self.now c.args.tables.now) c.args.pos c.in_ok-judge_go.field-0 c.in_ok-judge_go.ensures c.in_ok-set_pos.field-0 c.set_pos.new.self c.in_ok-set_pos.ensures c.cursor_place-place.result (subst (λ (v : Window). CursorAt g.T.Widths.WidthTable.columns v.prompt v.size c.set_pos.new.self c.cursor_place-place.result) c.window.ensures c.cursor_place-place.ensures)
    (places-apart c.args.self.now.layout.cursor.row c.args.self.now.layout.cursor.col c.cursor_place-place.result.row c.cursor_place-place.result.col
    (λ row col. places-two c.cursor_place-place.result c.cursor.result c.if-eq.ensures (col ∙ sym (ap (λ (p : Position). p.col) c.cursor.ensures)) (row ∙ sym (ap (λ (p : Position). p.row) c.cursor.ensures))))
    c.move_cursor.result (state_of c.move_cursor.new.terminal c.move_cursor.new.highlighter c.move_cursor.new.self c.move_cursor.new.tables) (c.move_cursor.ensures hints) c.outcome_of.result c.outcome_of.ensures
