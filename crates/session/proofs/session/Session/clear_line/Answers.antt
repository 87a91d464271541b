use Rattle.std.proofs.Common.{Bool, subst}
use Rattle.session.specs.Clearing.{DrawnCleared}
use Rattle.session.proofs.session.Session.clear_line.Goals as goal

pub returns : goal.returns
returns g c = record {
  origin = c.origin-self.result;
  first = c.origin-self.ensures;
  layout = c.prepare-layout.result;
  session = c.prepare-layout.new.self;
  tables = c.prepare-layout.new.tables;
  prepares = c.prepare-layout.ensures;
  paints = subst (λ (b : Bool). DrawnCleared g.T.Terminal.answered (g.H.Highlighter.lights c.prepare-layout.new.highlighter) (g.H.Highlighter.lights_prompt c.prepare-layout.new.highlighter) (g.H.Highlighter.lights_hint c.prepare-layout.new.highlighter) b c.prepare-layout.result c.prepare-layout.new.self c.prepare-layout.new.tables c.args.terminal.now c.paint_cleared.result c.paint_cleared.new.self c.paint_cleared.new.tables c.paint_cleared.new.terminal) c.may_hold-release.ensures c.paint_cleared.ensures;
}
