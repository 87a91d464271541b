-- Tables with nothing in them. Assumes nothing.
use Rattle.std.specs.Prelude.{◌≡◌, [], None}
use Rattle.lines.specs.Lines.{Holds}
use Rattle.lines.specs.Notes.{note_of}
use Rattle.lines.specs.Prompts.{MadeOf}
use Rattle.lines.specs.declared.prompt.Prompt.{Prompt}
use Rattle.render.specs.Composing.{composed}
use Rattle.session.specs.declared.tables.Tables.{Tables}

-- a prompt of no bytes, an empty line, no note, no hint, and nothing composed
pub record Empty (b : Tables) : Type 0 where
  pub prompt : MadeOf [] [] b.prompt
  pub line : Holds [] 0 b.line
  pub note : note_of b.note ≡ None
  pub hint : note_of b.hint ≡ None
  pub buffer : composed b.renderer ≡ []

-- a prompt, an empty line, no note and no hint, the draw buffer as it was
pub record Begins (p : Prompt) (b c : Tables) : Type 0 where
  pub prompt : c.prompt ≡ p
  pub line : Holds [] 0 c.line
  pub note : note_of c.note ≡ None
  pub hint : note_of c.hint ≡ None
  pub renderer : c.renderer ≡ b.renderer
