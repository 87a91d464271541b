-- A line drawn anew by a session. Assumes nothing.
use Rattle.std.specs.Prelude.{◌≡◌, ℕ, Bool, List, Some, Ok, Err, Result}
use Rattle.layout.specs.declared.block.Layout.{Layout}
use Rattle.page.specs.declared.outcome.BrokenAct.{BrokenAct}
use Rattle.render.specs.Composing.{composed}
use Rattle.render.specs.Drawing.{Drew, texts_of}
use Rattle.session.specs.Styling.{StyledTexts}
use Rattle.session.specs.declared.session.Session.{Session}
use Rattle.session.specs.declared.standing.Standing.{Standing}
use Rattle.session.specs.declared.standing.Standing.TheVariants.{Open, Torn}
use Rattle.session.specs.declared.tables.Tables.{Tables}
use Rattle.terminal.specs.Answers.{WriteAnswer}

-- the session with another layout and standing
abbrev pub laid_at : Layout → Standing → Session → Session
laid_at l x s = record { size = s.size; begun = s.begun; colours = s.colours; holds = s.holds; standing = x; lit = s.lit; prompt = s.prompt; layout = l }

-- writes that are taken leave the new layout, a broken one tears the session and leaves the old
abbrev pub drawn_to : Layout → Session → Result Unit BrokenAct → Session
drawn_to l s (Ok u) = laid_at l Open s
drawn_to l s (Err b) = laid_at s.layout Torn s

-- the block is erased by the session's layout and drawn by another
pub record Painted {T : Type 0} (answered : T → List ℕ → WriteAnswer → T → Type 0) (lights : List ℕ → ℕ → List ℕ → Type 0) (lights_prompt : List ℕ → Bool → List ℕ → Type 0) (lights_hint : List ℕ → List ℕ → Type 0)
    (l : Layout) (s : Session) (b : Tables) (x : T) (r : Result Unit BrokenAct) (t : Session) (c : Tables) (y : T) : Type 0 where
  pub drew : Drew answered (StyledTexts lights lights_prompt lights_hint s.colours (texts_of b.prompt b.line b.note)) (Some s.layout) l s.holds x r y (composed c.renderer)
  pub session : t ≡ drawn_to l s r
  pub prompt : c.prompt ≡ b.prompt
  pub line : c.line ≡ b.line
  pub note : c.note ≡ b.note
  pub hint : c.hint ≡ b.hint
