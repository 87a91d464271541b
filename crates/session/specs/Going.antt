-- The cursor moved to another edit position. Assumes nothing.
use Rattle.std.specs.Prelude.{◌≡◌, ℕ, Bool, true, false, ◌&&◌, List, [], ◌∷◌, ◌++◌, take, None, Result, nat_le, nat_lt}
use Rattle.judging.specs.Fitting.{LaidOut}
use Rattle.judging.specs.Judgements.{Behind, Low}
use Rattle.layout.specs.Laying.{Moved}
use Rattle.layout.specs.declared.block.Layout.{Layout}
use Rattle.layout.specs.declared.layout.Position.{Position}
use Rattle.lines.specs.Lines.{line_of}
use Rattle.lines.specs.Notes.{note_of}
use Rattle.lines.specs.declared.line_buffer.LineBuffer.{LineBuffer}
use Rattle.lines.specs.declared.note.Note.{Note}
use Rattle.page.specs.Law.{World, Written}
use Rattle.page.specs.declared.outcome.BrokenAct.{BrokenAct}
use Rattle.screen.specs.Output.{move_bytes}
use Rattle.screen.specs.Places.{place_of}
use Rattle.screen.specs.Screen.{block}
use Rattle.session.specs.Asking.{Asked}
use Rattle.session.specs.Buffering.{buffer_of}
use Rattle.session.specs.Painting.{Painted, drawn_to}
use Rattle.session.specs.Sessions.{State}
use Rattle.session.specs.declared.session.Session.{Session}
use Rattle.session.specs.declared.tables.Tables.{Tables}
use Rattle.std.specs.Str.{chars}
use Rattle.terminal.specs.Windows.{geometry}
use Rattle.terminal.specs.declared.size.Size.{Size}
use Rattle.terminal.specs.Answers.{WriteAnswer}

-- the place of an edit position in a line behind its prompt
abbrev pub CursorAt : (ℕ → ℕ) → Position → Size → LineBuffer → Position → Type 0
CursorAt w p z line q = (ps : List ℕ) → Behind w z ps p → q ≡ place_of (geometry w z) (block (geometry w z) (ps ++ chars (take line.pos (line_of line))))

-- the layout of a line without a note, where the window holds it
abbrev pub LaysBare : (ℕ → ℕ) → Position → Size → LineBuffer → Layout → Type 0
LaysBare w p z line l = (ps : List ℕ) → Behind w z ps p → Low (geometry w z) ps (line_of line) [] → LaidOut (geometry w z) ps (line_of line) line.pos None l

-- a layout whose cursor goes to a place, if that is not below its end nor past the last column
pub record Follows (old : Layout) (place : Position) (l : Layout) : Type 0 where
  pub moved : (nat_le place.row old.end.row && nat_lt place.col 500) ≡ true → Moved old place l
  pub same : (nat_le place.row old.end.row && nat_lt place.col 500) ≡ false → l ≡ old

-- the tables with another note
abbrev pub with_note : Note → Tables → Tables
with_note n b = record { prompt = b.prompt; line = b.line; note = n; hint = b.hint; renderer = b.renderer }

-- the tables with another line
abbrev pub with_line : LineBuffer → Tables → Tables
with_line l b = record { prompt = b.prompt; line = l; note = b.note; hint = b.hint; renderer = b.renderer }

module _ {T : Type 0} (answered : T → List ℕ → WriteAnswer → T → Type 0) where
  -- the note is dropped, and the line drawn without it
  pub record Bared (w : ℕ → ℕ) (lights : List ℕ → ℕ → List ℕ → Type 0) (lights_prompt : List ℕ → Bool → List ℕ → Type 0) (lights_hint : List ℕ → List ℕ → Type 0)
      (s : Session) (b : Tables) (x : T) (r : Result Unit BrokenAct) (t : Session) (c : Tables) (y : T) : Type 0 where
    pub layout : Layout
    pub note : Note
    pub dropped : note_of note ≡ None
    pub laid : LaysBare w s.prompt s.size b.line layout
    pub paints : Painted answered lights lights_prompt lights_hint layout s (with_note note b) x r t c y

  -- the cursor is moved from the layout's place to another: taken, the layout follows; broken, the session is torn
  pub record Shifted (place : Position) (s : Session) (b : Tables) (x : T) (r : Result Unit BrokenAct) (t : Session) (c : Tables) (y : T) : Type 0 where
    pub written : Written answered x (move_bytes s.layout.cursor.row s.layout.cursor.col place.row place.col ∷ []) r y
    pub bytes : buffer_of c ≡ move_bytes s.layout.cursor.row s.layout.cursor.col place.row place.col
    pub layout : Layout
    pub follows : Follows s.layout place layout
    pub session : t ≡ drawn_to layout s r
    pub prompt : c.prompt ≡ b.prompt
    pub line : c.line ≡ b.line
    pub note : c.note ≡ b.note
    pub hint : c.hint ≡ b.hint

-- the highlighter is asked; where it wants so, now or before, the line is drawn without its note, else the cursor alone moves
pub record MovesCursor {T H : Type 0} (w : World T H) (place : Position) (x : State T H) (r : Result Unit BrokenAct) (y : State T H) : Type 0 where
  pub session : Session
  pub anew : Bool
  pub asked : Asked w.heeds_move x.highlighter x.tables.line x.session anew session y.highlighter
  pub drawn : anew ≡ true → Bared w.answered w.columns (w.lights y.highlighter) (w.lights_prompt y.highlighter) (w.lights_hint y.highlighter) session x.tables x.terminal r y.session y.tables y.terminal
  pub moved : anew ≡ false → Shifted w.answered place session x.tables x.terminal r y.session y.tables y.terminal
