-- What stands in the draw buffer after an act, by the pages before and after it and what the highlighter answered. Assumes nothing.
use Rattle.std.specs.Prelude.{◌≡◌, ℕ, Bool, cond, ◌&&◌, ◌||◌, List, ◌++◌, Ok, Err, ◌==◌}
use Rattle.page.specs.Acts.{Act, Replies, clear, create, finish, go, insert, message, notice, refresh, set, stays}
use Rattle.page.specs.Law.{Moment, Settings, Stepped, World, geometry_of}
use Rattle.page.specs.Output.{direct, draw_page, erase_page, move_page}
use Rattle.page.specs.Page.{Page, cursor_col, cursor_row, end_col, end_row}
use Rattle.page.specs.Rules.{Outcome}
use Rattle.page.specs.declared.outcome.Rejection.TheVariants.{Broke, Refused}
use Rattle.render.specs.Composing.{composed}
use Rattle.screen.specs.Output.{erase_bytes, move_bytes}
use Rattle.screen.specs.Screen.{Geometry}
use Rattle.session.specs.declared.tables.Tables.{Tables}

-- the bytes composed last
abbrev pub buffer_of : Tables → List ℕ
buffer_of b = composed b.renderer

module _ (d : Geometry) (prompt : List ℕ) where
  -- a block drawn where none stands
  abbrev pub drawing : Replies → Page → List ℕ
  drawing r q = erase_bytes 0 0 ++ draw_page d prompt r q

  -- a block drawn in the place of another
  abbrev pub redrawing : Replies → Page → Page → List ℕ
  redrawing r p q = erase_page d prompt p ++ draw_page d prompt r q

  -- the cursor is at the block's end
  abbrev pub at_end : Page → Bool
  at_end p = cursor_row d prompt p == end_row d prompt p && cursor_col d prompt p == end_col d prompt p

  -- and goes there
  abbrev pub ending : Page → List ℕ
  ending p = move_bytes (cursor_row d prompt p) (cursor_col d prompt p) (end_row d prompt p) (end_col d prompt p)

  -- the draw buffer after an act that no rule refused, whether or not its writes broke: what was composed for it, and what stood there before where nothing was
  abbrev pub buffer_after : Act → Replies → Page → Page → List ℕ → List ℕ
  buffer_after create r p q before = drawing r q
  buffer_after (insert c n) r p q before = cond (direct d prompt c n r p q) before (redrawing r p q)
  buffer_after (set l k) r p q before = redrawing r p q
  buffer_after (go k) r p q before = cond (stays d prompt p q) before (cond (r.yes || p.lit) (redrawing r p q) (move_page d prompt p q))
  buffer_after refresh r p q before = redrawing r p q
  buffer_after (message t) r p q before = redrawing r p q
  buffer_after (notice t) r p q before = redrawing r p q
  buffer_after clear r p q before = drawing r q
  buffer_after finish r p q before = cond (at_end p) before (ending p)

module _ {T H : Type 0} (w : World T H) (z : Settings) where
  -- the draw buffer before and after a step, by what was answered in that step
  abbrev pub Buffers : (m : Moment T H) (a : Act) (o : Outcome) (n : Moment T H) → Stepped w z m a o n → List ℕ → List ℕ → Type 0
  Buffers m a (Ok u) n s before after = after ≡ buffer_after (geometry_of w z) z.prompt a s.1.replies m.page n.page before
  Buffers m a (Err (Refused e)) n s before after = after ≡ before
  Buffers m a (Err (Broke b)) n s before after = after ≡ buffer_after (geometry_of w z) z.prompt a s.1.replies m.page n.page before

  -- a step of a run, and the draw buffer before and after it
  pub record Buffered (m : Moment T H) (a : Act) (o : Outcome) (n : Moment T H) (before after : List ℕ) : Type 0 where
    pub step : Stepped w z m a o n
    pub buffer : Buffers m a o n step before after
