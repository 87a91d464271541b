use Rattle.render.proofs.Styling.{lit-appends}
use Rattle.render.specs.Composing.{composed}
use Rattle.render.proofs.renderer.PosixRenderer.push_lit_texts.Goals as goal

pub returns : goal.returns
returns g c =
    lit-appends g.H.Highlighter c.args.highlighter.now c.args.block.now
    (composed c.args.self.now) (composed c.push_lit_prompt.new.self) (composed c.push_lit_line.new.self) (composed c.push_lit_note.new.self)
    c.push_lit_prompt.ensures c.push_lit_line.ensures c.push_lit_note.ensures
