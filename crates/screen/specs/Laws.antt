-- What bytes do to a screen, as laws: texts are drawn, blocks erased, the cursor moved, and what no byte takes away. Assumes nothing.
use Rattle.std.specs.Prelude.{◌≡◌, ℕ, suc, ◌+◌, ◌-◌, ◌<◌, ◌≤◌, max, Bool, true, false, ◌&&◌, ◌≢◌, List, Some, None, Option, ◌==◌, nat_lt}
use Rattle.std.proofs.Math.Utf8.{encode, scalar}
use Rattle.screen.specs.Bytes.{at, column, feed}
use Rattle.screen.specs.Output.{clear_bytes, erase_bytes, move_by}
use Rattle.screen.specs.Screen.{Geometry, Row, Screen, blank_screen, block, draw, is_half, put}
use Rattle.screen.specs.declared.cells.Cell.{Cell}
use Rattle.screen.specs.declared.cells.Cell.TheVariants.{Blank, Glyph, RightHalf}
use Rattle.screen.specs.declared.cells.Parser.TheVariants.{Ground}
use Rattle.text.specs.Texts.{Styled, plain, style}

-- a style sequence changes nothing
abbrev pub Style : Type 0
Style = (d : Geometry) (ps : List ℕ) (s : Screen) → plain ps ≡ true → s.parser ≡ Ground → feed d (style ps) s ≡ s

-- the bytes of a character do what the character does, and leave nothing unfinished
abbrev pub Utf : Type 0
Utf = (d : Geometry) (c : ℕ) (s : Screen) → scalar c ≡ true → c ≢ 27 → s.parser ≡ Ground → feed d (encode c) s ≡ put d c s

-- the cursor stands in the window, nothing is unfinished
pub record Sound (d : Geometry) (s : Screen) : Type 0 where
  pub idle : s.parser ≡ Ground
  pub above : s.top ≤ s.pen.row
  pub inside : s.pen.row < s.top + d.rows
  pub fits : s.pen.col ≤ d.cols

-- the cursor stands at the start of a row, and nothing stands from there on
pub record Fresh (d : Geometry) (s : Screen) : Type 0 where
  pub sound : Sound d s
  pub start : s.pen.col ≡ 0
  pub apart : s.pen.join ≡ None
  pub blanks : (i j : ℕ) → s.pen.row ≤ i → s.pen.paper i j ≡ Blank

-- t is s with the block of the text drawn from the cursor on: rows above stand, the block's rows follow, and the window has moved just enough
pub record Shows (d : Geometry) (cs : List ℕ) (s t : Screen) : Type 0 where
  pub upper : (i j : ℕ) → i < s.pen.row → t.pen.paper i j ≡ s.pen.paper i j
  pub lower : (i j : ℕ) → t.pen.paper (s.pen.row + i) j ≡ (block d cs).paper i j
  pub line : t.pen.row ≡ s.pen.row + (block d cs).row
  pub place : t.pen.col ≡ (block d cs).col
  pub joins : t.pen.join ≡ (block d cs).join
  pub window : t.top ≡ max s.top (suc (s.pen.row + (block d cs).row) - d.rows)
  pub held : t.held ≡ s.held
  pub idle : t.parser ≡ Ground

-- where nothing stands from the cursor on, a text shows its block
abbrev pub Draws : Type 0
Draws = (d : Geometry) (cs : List ℕ) (s : Screen) → Fresh d s → Shows d cs s (draw d cs s)

-- t is s with the rows from b on erased, and the cursor at their start
pub record Erased (d : Geometry) (b : ℕ) (s t : Screen) : Type 0 where
  pub fresh : Fresh d t
  pub line : t.pen.row ≡ b
  pub upper : (i j : ℕ) → i < b → t.pen.paper i j ≡ s.pen.paper i j
  pub window : t.top ≡ s.top
  pub held : t.held ≡ s.held

-- from k rows above the last row of a block that begins in row b and ends n rows below, its bytes erase it
abbrev pub Erases : Type 0
Erases = (d : Geometry) (s : Screen) (b k n : ℕ) → Sound d s → s.top ≤ b → s.pen.row + k ≡ b + n → b + n < s.top + d.rows → k ≤ 9999 → ((i j : ℕ) → b + n < i → s.pen.paper i j ≡ Blank) → Erased d b s (feed d (erase_bytes k n) s)

-- the bytes of a styled text do what the characters do that it shows
abbrev pub Feeds : Type 0
Feeds = (d : Geometry) (bs cs : List ℕ) (s : Screen) → Styled bs cs → s.parser ≡ Ground → feed d bs s ≡ draw d cs s

-- the four moves, to a place that lies in the window
abbrev pub Moves : Type 0
Moves = (d : Geometry) (n : ℕ) (s : Screen) → Sound d s → 1 ≤ n → n ≤ 9999 →
    (s.top + n ≤ s.pen.row → feed d (move_by 65 n) s ≡ at (s.pen.row - n) (column d s) s)
    × (s.pen.row + n < s.top + d.rows → feed d (move_by 66 n) s ≡ at (s.pen.row + n) (column d s) s)
    × (column d s + n < d.cols → feed d (move_by 67 n) s ≡ at s.pen.row (column d s + n) s)
    × (n ≤ column d s → feed d (move_by 68 n) s ≡ at s.pen.row (column d s - n) s)

-- a character of two columns stands in the cell
abbrev pub is_wide : Geometry → Cell → Bool
is_wide d Blank = false
is_wide d (Glyph c m) = d.width c == 2
is_wide d RightHalf = false

-- a zero-width character, or none
abbrev pub mark_fits : Geometry → Option ℕ → Bool
mark_fits d None = true
mark_fits d (Some m) = d.width m == 0

-- a cell holds a character that takes columns, and on it at most one that takes none
abbrev pub cell_fits : Geometry → Cell → Bool
cell_fits d Blank = true
cell_fits d (Glyph c m) = nat_lt 0 (d.width c) && mark_fits d m
cell_fits d RightHalf = true

-- a row of a screen: a right half stands exactly behind a wide character, marks only on characters, and nothing past the last column
pub record Formed (d : Geometry) (f : Row) : Type 0 where
  pub first : is_half (f 0) ≡ false
  pub halves : (j : ℕ) → is_half (f (suc j)) ≡ is_wide d (f j)
  pub cells : (j : ℕ) → cell_fits d (f j) ≡ true
  pub past : (j : ℕ) → d.cols ≤ j → f j ≡ Blank

-- what holds of a screen whatever bytes it has taken: the cursor stands in the window, and nothing stands below the window
pub record Kept (d : Geometry) (s : Screen) : Type 0 where
  pub above : s.top ≤ s.pen.row
  pub inside : s.pen.row < s.top + d.rows
  pub fits : s.pen.col ≤ d.cols
  pub below : (i j : ℕ) → s.top + d.rows ≤ i → s.pen.paper i j ≡ Blank

-- every row is formed
abbrev pub AllFormed : Geometry → Screen → Type 0
AllFormed d s = (i : ℕ) → Formed d (s.pen.paper i)

-- a blank screen has all this, and no byte takes it away
pub record Keeps (d : Geometry) : Type 0 where
  pub start : Kept d blank_screen × AllFormed d blank_screen
  pub kept : (bs : List ℕ) (s : Screen) → Kept d s → Kept d (feed d bs s)
  pub formed : (bs : List ℕ) (s : Screen) → Kept d s → AllFormed d s → AllFormed d (feed d bs s)

-- so it is on every window that has a row and two columns, by every table of widths 0 to 2
abbrev pub AlwaysKept : Type 0
AlwaysKept = (d : Geometry) → 0 < d.rows → 2 ≤ d.cols → ((c : ℕ) → d.width c ≤ 2) → Keeps d

-- home and erase, from wherever the cursor stands and whatever is unfinished
abbrev pub Clears : Type 0
Clears = (d : Geometry) (s : Screen) → 0 < d.rows → Kept d s → Erased d s.top s (feed d clear_bytes s)
