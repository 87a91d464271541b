use Rattle.render.specs.Composing.{composed}
use Rattle.render.specs.Drawing.{texts_of}
use Rattle.session.proofs.Styling.{lent, printed-styled}
use Rattle.std.proofs.Common.{◌∙◌}
use Rattle.session.proofs.Noticing.{drawn-noticed, noticed}
use Rattle.session.proofs.session.Session.print_notice.Goals as goal

pub returns : goal.returns
returns g c =
    noticed c.args.layout c.origin-self.result c.args.text.now c.args.self.now _ c.args.tables.now c.args.terminal.now c.print_notice-written.new.terminal c.print_notice-written.result c.copy_from.new.self c.print_notice-written.new.self
    c.copy_from.ensures c.origin-self.ensures (c.settle.ensures ∙ drawn-noticed c.args.layout c.origin-self.result c.args.self.now c.print_notice-written.result) (printed-styled g.H.Highlighter c.args.highlighter.now (texts_of c.args.tables.now.prompt c.args.tables.now.line c.copy_from.new.self) c.args.self.now.colours _ c.args.self.now.layout c.args.layout c.args.text.now c.args.self.now.holds c.args.terminal.now c.print_notice-written.new.terminal c.print_notice-written.result (composed c.print_notice-written.new.self) (lent c.args.self.now.colours _ _ c.then_some-lit.ensures) c.print_notice-written.ensures)
