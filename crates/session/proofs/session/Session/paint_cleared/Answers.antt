use Rattle.render.specs.Composing.{composed}
use Rattle.render.specs.Drawing.{texts_of}
use Rattle.session.proofs.Styling.{composes-styled, lent}
use Rattle.session.proofs.Clearing.{composed-cleared}
use Rattle.std.proofs.Common.{Some}
use Rattle.session.proofs.session.Session.paint_cleared.Goals as goal

pub returns : goal.returns
returns g c = composed-cleared g.T.Terminal.answered (g.H.Highlighter.lights c.args.highlighter.now) (g.H.Highlighter.lights_prompt c.args.highlighter.now) (g.H.Highlighter.lights_hint c.args.highlighter.now) c.args.release c.args.layout c.args.self.now c.args.tables.now c.compose_line.new.self c.compose_line.result c.contents.result.now c.args.terminal.now c.write_cleared-drawn.new.terminal c.write_cleared-drawn.result c.settle.new.self (composes-styled g.H.Highlighter c.args.highlighter.now (texts_of c.args.tables.now.prompt c.args.tables.now.line c.args.tables.now.note) c.args.self.now.colours _ (Some c.args.self.now.layout) c.args.layout c.compose_line.result (composed c.compose_line.new.self) (lent c.args.self.now.colours _ _ c.then_some-lit.ensures) c.compose_line.ensures) c.contents.ensures c.write_cleared-drawn.ensures c.settle.ensures
