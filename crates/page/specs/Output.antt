-- The writes of each act, by the pages before and after it and what the highlighter answered. Assumes nothing.
use Rattle.std.specs.Prelude.{ℕ, ◌+◌, ◌-◌, Bool, cond, not, ◌&&◌, ◌||◌, List, [], ◌∷◌, ◌++◌, length, is_some, ◌==◌, nat_lt}
use Rattle.page.specs.Acts.{Act, Replies, clear, create, ends_line, finish, go, insert, message, notice, refresh, set, stays}
use Rattle.page.specs.Page.{Page, block_text, cursor_col, cursor_row, end_col, end_row, front_text}
use Rattle.screen.specs.Output.{clear_bytes, draw_bytes, erase_bytes, hold_bytes, move_bytes, release_bytes}
use Rattle.screen.specs.Screen.{Geometry}
use Rattle.std.specs.Str.{chars}
use Rattle.widths.specs.Clusters.{total}

-- the styled text of prompt, line and note
abbrev pub styled_block : Replies → List ℕ
styled_block r = r.prompt ++ (r.line ++ r.note)

-- a body between the marks of a held update
abbrev pub framed : Bool → List (List ℕ) → List (List ℕ)
framed holds body = cond holds (hold_bytes ∷ (body ++ (release_bytes ∷ []))) body

module _ (d : Geometry) (prompt : List ℕ) where
  -- the block of a page from the start of a row, the cursor then at the page's place
  abbrev pub draw_page : Replies → Page → List ℕ
  draw_page r q = draw_bytes d (styled_block r) (block_text prompt q) (front_text prompt q)

  -- the same on a blank row that is blanked again
  abbrev pub first_page : Bool → Replies → Page → List (List ℕ)
  first_page holds r q = framed holds ((erase_bytes 0 0 ++ draw_page r q) ∷ [])

  -- the old block is erased
  abbrev pub erase_page : Page → List ℕ
  erase_page p = erase_bytes (end_row d prompt p - cursor_row d prompt p) (end_row d prompt p)

  -- the old block is erased and the new one drawn
  abbrev pub redraw : Bool → Replies → Page → Page → List (List ℕ)
  redraw holds r p q = framed holds ((erase_page p ++ draw_page r q) ∷ [])

  -- an insert that is written by itself: one character that takes columns, at the end of the line, within the row, with no note and nothing to light
  abbrev pub direct : List ℕ → ℕ → Replies → Page → Page → Bool
  direct c n r p q =
      (p.pos == length p.line) && (n == 1
      && (nat_lt 0 (total d.width (chars c)) && (nat_lt (cursor_col d prompt p + total d.width (chars c)) d.cols
      && (not (is_some p.note) && (not (is_some q.note) && not (r.yes || p.lit))))))

  -- the cursor goes from a page's place to another's
  abbrev pub move_page : Page → Page → List ℕ
  move_page p q = move_bytes (cursor_row d prompt p) (cursor_col d prompt p) (cursor_row d prompt q) (cursor_col d prompt q)

  -- an LF behind a notice that has none
  abbrev pub close_notice : List ℕ → List (List ℕ)
  close_notice t = cond (ends_line t) [] ((10 ∷ []) ∷ [])

  -- the cursor goes to the block's end, if it is not there
  abbrev pub to_end : Page → List (List ℕ)
  to_end p = cond (cursor_row d prompt p == end_row d prompt p && cursor_col d prompt p == end_col d prompt p) [] (move_bytes (cursor_row d prompt p) (cursor_col d prompt p) (end_row d prompt p) (end_col d prompt p) ∷ [])

  -- a torn session that holds updates lets go of one that may be held
  abbrev pub let_go : Bool → Bool → List (List ℕ)
  let_go holds torn = cond (torn && holds) (release_bytes ∷ []) []

  -- the writes of an act between two pages
  abbrev pub writes : Bool → Bool → Act → Replies → Page → Page → List (List ℕ)
  writes holds torn create r p q = first_page holds r q
  writes holds torn (insert c n) r p q = cond (direct c n r p q) (c ∷ []) (redraw holds r p q)
  writes holds torn (set l k) r p q = redraw holds r p q
  writes holds torn (go k) r p q = cond (stays d prompt p q) [] (cond (r.yes || p.lit) (redraw holds r p q) (move_page p q ∷ []))
  writes holds torn refresh r p q = redraw holds r p q
  writes holds torn (message t) r p q = redraw holds r p q
  writes holds torn (notice t) r p q = framed holds (erase_page p ∷ (t ∷ (close_notice t ++ (draw_page r q ∷ []))))
  writes holds torn clear r p q = let_go holds torn ++ (clear_bytes ∷ first_page holds r q)
  writes holds torn finish r p q = to_end p ++ ((10 ∷ []) ∷ [])
