-- A screen, and what drawing a character does to it. Rows and columns count from 0. Assumes nothing.
use Rattle.std.specs.Prelude.{ℕ, suc, ◌+◌, ◌-◌, max, Bool, true, false, cond, ◌&&◌, ◌||◌, List, [], ◌∷◌, Some, None, Option, ◌==◌, nat_le, nat_lt}
use Rattle.text.specs.Characters.{is_control}
use Rattle.screen.specs.declared.cells.Cell.{Cell}
use Rattle.screen.specs.declared.cells.Cell.TheVariants.{Blank, Glyph, RightHalf}
use Rattle.screen.specs.declared.cells.Parser.{Parser}
use Rattle.screen.specs.declared.cells.Parser.TheVariants.{Ground}

-- a row of cells, by the column
abbrev pub Row : Type 0
Row = ℕ → Cell

-- rows without end, by the row's number
abbrev pub Paper : Type 0
Paper = ℕ → Row

-- nothing in it
abbrev pub blank_row : Row
blank_row = λ j. Blank

-- nothing on it
abbrev pub blank_paper : Paper
blank_paper = λ i. blank_row

-- the right half of a wide character
abbrev pub is_half : Cell → Bool
is_half Blank = false
is_half (Glyph c m) = false
is_half RightHalf = true

-- a wide character that lies across the left edge of column a is blanked, both halves
unfoldable pub split : ℕ → Row → Row
split a f j = cond (is_half (f a) && (suc j == a || j == a)) Blank (f j)

-- w cells from column a on hold the character c: its glyph, and right halves behind it
unfoldable pub placed : ℕ → ℕ → ℕ → Row → Row
placed w c a f j = cond (j == a) (Glyph c None) (cond (nat_lt a j && nat_lt j (a + w)) RightHalf (split (a + w) (split a f) j))

-- a character takes the mark m in place of one that it has
abbrev pub marked : ℕ → Cell → Cell
marked m Blank = Blank
marked m (Glyph c k) = Glyph c (Some m)
marked m RightHalf = RightHalf

-- the character in column a takes the mark m
unfoldable pub mark_at : ℕ → ℕ → Row → Row
mark_at m a f j = cond (j == a) (marked m (f j)) (f j)

-- the cells from column a on blanked
unfoldable pub wipe_from : ℕ → Row → Row
wipe_from a f j = cond (nat_le a j) Blank (split a f j)

-- the paper with one row changed
unfoldable pub on_row : ℕ → (Row → Row) → Paper → Paper
on_row r f p i = cond (i == r) (f (p i)) (p i)

-- the rows from a to b blanked
unfoldable pub rows_from : ℕ → ℕ → Paper → Paper
rows_from a b p i = cond (nat_le a i && nat_le i b) blank_row (p i)

-- the paper, the cursor, and the column of the cell last taken, on the cursor's row, while a zero-width character could still join it;
-- the cursor's column is the number of columns where the row is full
pub record Pen : Type 0 where
  pub paper : Paper
  pub row : ℕ
  pub col : ℕ
  pub join : Option ℕ

-- what a terminal never changes: its width table and its window's size
pub record Geometry : Type 0 where
  pub width : ℕ → ℕ
  pub cols : ℕ
  pub rows : ℕ

-- LF: column 0 of the next row
abbrev pub newline : Pen → Pen
newline p = record { paper = p.paper; row = suc p.row; col = 0; join = None }

-- CR: column 0
abbrev pub carriage : Pen → Pen
carriage p = record { paper = p.paper; row = p.row; col = 0; join = None }

-- nothing but that the joining ends
abbrev pub quiet : Pen → Pen
quiet p = record { paper = p.paper; row = p.row; col = p.col; join = None }

-- a new row where there is no room
abbrev pub room : Bool → Pen → Pen
room true p = newline p
room false p = p

-- the character c takes w cells at the cursor
abbrev pub takes : ℕ → ℕ → Pen → Pen
takes w c p = record { paper = on_row p.row (placed w c p.col) p.paper; row = p.row; col = p.col + w; join = Some p.col }

-- the zero-width character c is put on the cell last taken
abbrev pub combine : Option ℕ → ℕ → Pen → Pen
combine None c p = p
combine (Some j) c p = record { paper = on_row p.row (mark_at c j) p.paper; row = p.row; col = p.col; join = Some j }

-- LF, CR, and the controls that do nothing
abbrev pub control : ℕ → Pen → Pen
control c p = cond (c == 10) (newline p) (cond (c == 13) (carriage p) (quiet p))

-- the character rules
unfoldable pub put_pen : Geometry → ℕ → Pen → Pen
put_pen d c p =
    cond (is_control c) (control c p)
    (cond (d.width c == 0) (combine p.join c p)
    (takes (d.width c) c (room (nat_lt d.cols (p.col + d.width c)) p)))

-- characters, one after the other
abbrev pub draw_pen : Geometry → List ℕ → Pen → Pen
draw_pen d [] p = p
draw_pen d (c ∷ cs) p = draw_pen d cs (put_pen d c p)

-- the window's top is a row of the paper; `held` is the mark of a held update
pub record Screen : Type 0 where
  pub pen : Pen
  pub top : ℕ
  pub held : Bool
  pub parser : Parser

-- the window moves down just enough to show the cursor
abbrev pub follow : Geometry → Pen → Screen → Screen
follow d p s = record { pen = p; top = max s.top (suc p.row - d.rows); held = s.held; parser = Ground }

-- a character
abbrev pub put : Geometry → ℕ → Screen → Screen
put d c s = follow d (put_pen d c s.pen) s

-- characters, one after the other
abbrev pub draw : Geometry → List ℕ → Screen → Screen
draw d [] s = s
draw d (c ∷ cs) s = draw d cs (put d c s)

-- blank paper, the cursor at the top left
abbrev pub blank_pen : Pen
blank_pen = record { paper = blank_paper; row = 0; col = 0; join = None }

-- nothing drawn, the cursor at the top left
abbrev pub blank_screen : Screen
blank_screen = record { pen = blank_pen; top = 0; held = false; parser = Ground }

-- a text's block: the text drawn on blank paper from row 0, column 0
abbrev pub block : Geometry → List ℕ → Pen
block d cs = draw_pen d cs blank_pen

-- whether the cursor stands behind a full row
unfoldable pub full : Geometry → Pen → Bool
full d p = nat_le d.cols p.col

-- the row of the cursor's place, a full row counting as column 0 of the next
unfoldable pub place_row : Geometry → Pen → ℕ
place_row d p = cond (full d p) (suc p.row) p.row

-- the column of the cursor's place
unfoldable pub place_col : Geometry → Pen → ℕ
place_col d p = cond (full d p) 0 p.col

-- paper whose first r rows are those of `up`, and the rows below are those of p
unfoldable pub over : ℕ → Paper → Paper → Paper
over r up p i = cond (nat_lt i r) (up i) (p (i - r))

-- a pen moved down to row r, below the rows of `up`
abbrev pub lift : ℕ → Paper → Pen → Pen
lift r up p = record { paper = over r up p.paper; row = r + p.row; col = p.col; join = p.join }
