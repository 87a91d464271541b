use Rattle.std.proofs.Common.{Some, refl}
use Rattle.render.specs.Composing.{composed}
use Rattle.render.specs.Drawing.{texts_of}
use Rattle.session.proofs.Styling.{drew-styled, lent}
use Rattle.session.proofs.session.Session.paint.Goals as goal

pub returns : goal.returns
returns g c = record {
  drew = drew-styled g.H.Highlighter c.args.highlighter.now (texts_of c.args.tables.now.prompt c.args.tables.now.line c.args.tables.now.note) c.args.self.now.colours _ (Some c.args.self.now.layout) c.args.layout c.args.self.now.holds c.args.terminal.now c.refresh_line-drawn.new.terminal c.refresh_line-drawn.result (composed c.refresh_line-drawn.new.self) (lent c.args.self.now.colours _ _ c.then_some-lit.ensures) c.refresh_line-drawn.ensures;
  session = c.settle.ensures;
  prompt = refl;
  line = refl;
  note = refl;
  hint = refl;
}
