use Rattle.page.specs.Acts.{finish}
use Rattle.session.proofs.Acting.{refused-acted}
use Rattle.session.proofs.Finishing.{finish-broke, finished}
use Rattle.session.specs.Acting.{state_of, world_of}
use Rattle.session.proofs.session.Session.finish.Goals as goal

pub returns-in-Err : goal.returns-in-Err
returns-in-Err g c hints = refused-acted (world_of g.T.Terminal.screen g.T.Terminal.extent g.T.Terminal.answered g.T.Widths.WidthTable.columns g.H.Highlighter.lights g.H.Highlighter.lights_prompt g.H.Highlighter.lights_hint g.H.Highlighter.heeds hints) (state_of c.args.terminal.now c.args.highlighter.now c.args.self c.args.tables.now) finish c.in-Err.refusal c.in-Err.ensures.refuses

pub returns-in-Ok : goal.returns-in-Ok
returns-in-Ok g c hints = finished (world_of g.T.Terminal.screen g.T.Terminal.extent g.T.Terminal.answered g.T.Widths.WidthTable.columns g.H.Highlighter.lights g.H.Highlighter.lights_prompt g.H.Highlighter.lights_hint g.H.Highlighter.heeds hints) (state_of c.args.terminal.now c.args.highlighter.now c.args.self c.args.tables.now) c.leave_block.new.terminal c.leave_block.new.tables c.in_default.ensures.refuses c.in-Ok.ensures

pub returns-in-Err-leave_block : goal.returns-in-Err-leave_block
returns-in-Err-leave_block g c hints = finish-broke (world_of g.T.Terminal.screen g.T.Terminal.extent g.T.Terminal.answered g.T.Widths.WidthTable.columns g.H.Highlighter.lights g.H.Highlighter.lights_prompt g.H.Highlighter.lights_hint g.H.Highlighter.heeds hints) (state_of c.args.terminal.now c.args.highlighter.now c.args.self c.args.tables.now) c.leave_block.new.terminal c.leave_block.new.tables c.in_default.ensures.refuses c.in-Err-leave_block.broken c.in-Err-leave_block.ensures
