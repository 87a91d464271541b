-- A notice printed above the block of a session. Assumes nothing.
use Rattle.std.specs.Prelude.{◌≡◌, ℕ, ◌<◌, Bool, List, ◌++◌, Ok, Err, Option, Result}
use Rattle.judging.specs.Fitting.{LaidOut, Standing}
use Rattle.layout.specs.Laying.{LaidAs, corner}
use Rattle.layout.specs.declared.block.Layout.{Layout}
use Rattle.layout.specs.declared.layout.Position.{Position}
use Rattle.lines.specs.Notes.{note_of}
use Rattle.judging.specs.declared.judging.Placed.{Placed}
use Rattle.page.specs.Page.{note_text}
use Rattle.page.specs.declared.outcome.BrokenAct.{BrokenAct}
use Rattle.render.specs.Composing.{composed}
use Rattle.render.specs.Drawing.{texts_of}
use Rattle.render.specs.Notices.{Printed}
use Rattle.screen.specs.Screen.{block, place_row}
use Rattle.session.specs.Painting.{laid_at}
use Rattle.session.specs.Styling.{StyledTexts}
use Rattle.session.specs.declared.session.Session.{Session}
use Rattle.session.specs.declared.standing.Standing.TheVariants.{Open, Torn}
use Rattle.session.specs.declared.tables.Tables.{Tables}
use Rattle.std.specs.Str.{chars}
use Rattle.terminal.specs.Windows.{geometry}
use Rattle.terminal.specs.declared.size.Size.{Size}
use Rattle.terminal.specs.Answers.{WriteAnswer}

-- the layout of a line with a note that the window holds
abbrev pub LaysNote : (ℕ → ℕ) → Position → Size → Placed → Option (List ℕ) → Layout → Type 0
LaysNote w p z e note l = (ps line : List ℕ) (pos : ℕ) → Standing w p z e ps line pos
    → place_row (geometry w z) (block (geometry w z) (ps ++ (chars line ++ note_text note))) < z.rows → LaidOut (geometry w z) ps line pos note l

-- writes that are taken leave the new layout, a broken one tears the session and leaves none
abbrev pub noticed_to : Layout → Layout → Session → Result Unit BrokenAct → Session
noticed_to l none s (Ok u) = laid_at l Open s
noticed_to l none s (Err b) = laid_at none Torn s

-- the block is erased by the session's layout and drawn by another below a notice, the hint last answered its note
pub record Noticed {T : Type 0} (answered : T → List ℕ → WriteAnswer → T → Type 0) (lights : List ℕ → ℕ → List ℕ → Type 0) (lights_prompt : List ℕ → Bool → List ℕ → Type 0) (lights_hint : List ℕ → List ℕ → Type 0)
    (l : Layout) (text : List ℕ) (s : Session) (b : Tables) (x : T) (r : Result Unit BrokenAct) (t : Session) (c : Tables) (y : T) : Type 0 where
  pub print : Printed answered (StyledTexts lights lights_prompt lights_hint s.colours (texts_of b.prompt b.line c.note)) s.layout l text s.holds x r y (composed c.renderer)
  pub none : Layout
  pub blank : LaidAs 1 corner corner corner none
  pub session : t ≡ noticed_to l none s r
  pub note : note_of c.note ≡ note_of b.hint
  pub prompt : c.prompt ≡ b.prompt
  pub line : c.line ≡ b.line
  pub hint : c.hint ≡ b.hint
