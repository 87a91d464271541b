-- How a session ends. Assumes nothing.
use Rattle.std.specs.Prelude.{◌≡◌, ℕ, false, cond, ◌&&◌, List, [], ◌∷◌, ◌++◌, Ok, Err, Result, ◌==◌}
use Rattle.layout.specs.declared.block.Layout.{Layout}
use Rattle.page.specs.Acts.{closed, finish}
use Rattle.page.specs.Law.{World, Written}
use Rattle.page.specs.declared.outcome.BrokenAct.{BrokenAct}
use Rattle.page.specs.declared.outcome.Rejection.{Rejection}
use Rattle.screen.specs.Output.{move_bytes}
use Rattle.session.specs.Acting.{Acted, state_of}
use Rattle.session.specs.Buffering.{Buffered, buffer_of}
use Rattle.session.specs.Sessions.{Sound, State, View, moment_of, page_of, prompt_of, settings_of}
use Rattle.session.specs.declared.session.Session.{Session}
use Rattle.session.specs.declared.tables.Tables.{Tables}
use Rattle.terminal.specs.Windows.{geometry}
use Rattle.terminal.specs.Answers.{WriteAnswer}

-- tables that differ in their draw buffers alone
pub record SameTexts (b c : Tables) : Type 0 where
  pub prompt : c.prompt ≡ b.prompt
  pub line : c.line ≡ b.line
  pub note : c.note ≡ b.note
  pub hint : c.hint ≡ b.hint

-- the cursor goes to a block's end, if it is not there
abbrev pub end_layout : Layout → List (List ℕ)
end_layout l = cond (l.cursor.row == l.end.row && l.cursor.col == l.end.col) [] (move_bytes l.cursor.row l.cursor.col l.end.row l.end.col ∷ [])

-- the bytes composed for that, and what was composed before where it is there
abbrev pub end_buffer : Layout → List ℕ → List ℕ
end_buffer l before = cond (l.cursor.row == l.end.row && l.cursor.col == l.end.col) before (move_bytes l.cursor.row l.cursor.col l.end.row l.end.col)

-- and from there to the next row
pub record Left {T : Type 0} (answered : T → List ℕ → WriteAnswer → T → Type 0) (l : Layout) (b : Tables) (before : T) (r : Result Unit BrokenAct) (c : Tables) (after : T) : Type 0 where
  pub written : Written answered before (end_layout l ++ ((10 ∷ []) ∷ [])) r after
  pub texts : SameTexts b c
  pub buffer : buffer_of c ≡ end_buffer l (buffer_of b)

module _ {T H : Type 0} (w : World T H) where
  -- an accepted finish: a step of a run to the page with its cursor below the block, and the draw buffer holds what follows from it
  abbrev pub Ended : State T H → T → H → Tables → Type 0
  Ended x t h c = Sound w.columns x.session x.tables → (v : View)
      → Buffered w (settings_of x.session x.tables) (moment_of x v) finish (Ok tt) (record { terminal = t; highlighter = h; page = closed (geometry w.columns x.session.size) (prompt_of x.tables) (page_of x.session x.tables v); torn = false }) (buffer_of x.tables) (buffer_of c)

  -- the highlighter is not asked, and the texts stay
  pub record Finished (x : State T H) (t : T) (c : Tables) : Type 0 where
    pub steps : Ended x t x.highlighter c
    pub texts : SameTexts x.tables c

  -- accepted it uses the session up; else the session is handed back
  abbrev pub Finishes : State T H → Result Unit (Session × Rejection) → T → Tables → Type 0
  Finishes x (Ok u) t c = Finished x t c
  Finishes x (Err p) t c = Acted w x finish (Err p.1) (state_of t x.highlighter p.0 c)
