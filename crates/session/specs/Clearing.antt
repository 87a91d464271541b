-- A window blanked, and the line of a session drawn from its first place. Assumes nothing.
use Rattle.std.specs.Prelude.{◌≡◌, ℕ, Bool, cond, ◌&&◌, List, [], ◌∷◌, ◌++◌, Result}
use Rattle.layout.specs.Laying.{LaidAs, corner}
use Rattle.layout.specs.declared.block.Layout.{Layout}
use Rattle.judging.specs.declared.judging.Placed.{Placed}
use Rattle.page.specs.Law.{World, Written}
use Rattle.page.specs.Output.{framed}
use Rattle.page.specs.declared.outcome.BrokenAct.{BrokenAct}
use Rattle.render.specs.Drawing.{Styles, draw_layout, erase_layout, texts_of}
use Rattle.screen.specs.Output.{clear_bytes, release_bytes}
use Rattle.session.specs.Buffering.{buffer_of}
use Rattle.session.specs.Painting.{drawn_to, laid_at}
use Rattle.session.specs.Preparing.{Prepared}
use Rattle.session.specs.Sessions.{State, is_torn}
use Rattle.session.specs.Styling.{StyledTexts}
use Rattle.session.specs.declared.session.Session.{Session}
use Rattle.session.specs.declared.standing.Standing.TheVariants.{Torn}
use Rattle.session.specs.declared.tables.Tables.{Tables}
use Rattle.terminal.specs.Answers.{WriteAnswer}

-- an update that may be held is let go
abbrev pub released : Bool → List (List ℕ)
released release = cond release (release_bytes ∷ []) []

-- and the window is blanked
abbrev pub wiped : Bool → List (List ℕ)
wiped release = released release ++ (clear_bytes ∷ [])

-- and bytes are written, in an update of their own where updates are held
abbrev pub cleared_by : Bool → Bool → List ℕ → List (List ℕ)
cleared_by release holds bytes = released release ++ (clear_bytes ∷ framed holds (bytes ∷ []))

-- the window is blanked and the texts are drawn by a layout, which the session has from then on if the writes were taken
pub record DrawnCleared {T : Type 0} (answered : T → List ℕ → WriteAnswer → T → Type 0) (lights : List ℕ → ℕ → List ℕ → Type 0) (lights_prompt : List ℕ → Bool → List ℕ → Type 0) (lights_hint : List ℕ → List ℕ → Type 0)
    (release : Bool) (l : Layout) (s : Session) (b : Tables) (x : T) (r : Result Unit BrokenAct) (t : Session) (c : Tables) (y : T) : Type 0 where
  pub styles : Styles
  pub styled : StyledTexts lights lights_prompt lights_hint s.colours (texts_of b.prompt b.line b.note) styles
  pub written : Written answered x (cleared_by release s.holds (erase_layout s.layout ++ draw_layout styles l)) r y
  pub bytes : buffer_of c ≡ erase_layout s.layout ++ draw_layout styles l
  pub session : t ≡ drawn_to l s r
  pub prompt : c.prompt ≡ b.prompt
  pub line : c.line ≡ b.line
  pub note : c.note ≡ b.note
  pub hint : c.hint ≡ b.hint

-- hinter and highlighter are asked, and then the line is drawn from the window's first place
pub record Cleared {T H : Type 0} (w : World T H) (e : Placed) (x : State T H) (r : Result Unit BrokenAct) (y : State T H) : Type 0 where
  pub origin : Layout
  pub first : LaidAs 1 corner corner corner origin
  pub layout : Layout
  pub session : Session
  pub tables : Tables
  pub prepares : Prepared w e x.highlighter (laid_at origin Torn x.session) x.tables layout session tables y.highlighter
  pub paints : DrawnCleared w.answered (w.lights y.highlighter) (w.lights_prompt y.highlighter) (w.lights_hint y.highlighter) (is_torn x.session.standing && x.session.holds) layout session tables x.terminal r y.session y.tables y.terminal
