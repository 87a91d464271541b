use Rattle.std.proofs.lemmas.Result.{err_from_is_err_and}
use Rattle.page.specs.Acts.{notice}
use Rattle.session.proofs.Acting.{refused-acted}
use Rattle.session.proofs.Noticing.{notice-acted}
use Rattle.session.specs.Acting.{state_of, world_of}
use Rattle.session.proofs.session.Session.notice.Goals as goal

pub returns-in_err-placed : goal.returns-in_err-placed
returns-in_err-placed g c hints =
    let p = err_from_is_err_and c.from_residual.result c.from_residual.ensures.1 in
    rw (p.1, p.2) (refused-acted (world_of g.T.Terminal.screen g.T.Terminal.extent g.T.Terminal.answered g.T.Widths.WidthTable.columns g.H.Highlighter.lights g.H.Highlighter.lights_prompt g.H.Highlighter.lights_hint g.H.Highlighter.heeds hints) (state_of c.args.terminal.now c.args.highlighter.now c.args.self.now c.args.tables.now) (notice c.args.text.now) c.in_err-placed.field-0.0 c.in_err-placed.ensures.refuses)

pub returns : goal.returns
returns g c hints =
    notice-acted (world_of g.T.Terminal.screen g.T.Terminal.extent g.T.Terminal.answered g.T.Widths.WidthTable.columns g.H.Highlighter.lights g.H.Highlighter.lights_prompt g.H.Highlighter.lights_hint g.H.Highlighter.heeds hints) (state_of c.args.terminal.now c.args.highlighter.now c.args.self.now c.args.tables.now)
    c.args.text.now c.in_ok-placed.placed c.hinted_layout-layout.result c.print_notice.result c.print_notice.new.terminal c.print_notice.new.self c.print_notice.new.tables
    c.in_ok-placed.ensures c.hinted_layout-layout.ensures c.print_notice.ensures c.outcome_of.result c.outcome_of.ensures
