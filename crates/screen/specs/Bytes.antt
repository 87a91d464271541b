-- What a byte does to a screen: ECMA-48 with deferred wrap, and mode 2026. Assumes nothing.
use Rattle.std.specs.Prelude.{ℕ, suc, ◌+◌, ◌-◌, ◌*◌, min, max, Bool, true, false, cond, ◌&&◌, ◌||◌, List, [], ◌∷◌, None, Option, ◌==◌, nat_le, nat_lt}
use Rattle.screen.specs.declared.cells.Parser.{Parser}
use Rattle.screen.specs.declared.cells.Parser.TheVariants.{Ground, Escape, Sequence, Character}
use Rattle.screen.specs.declared.cells.Parameters.{Parameters}
use Rattle.screen.specs.declared.cells.Parameters.TheVariants.{Bare, Number, Numbers, Mode, Other}
use Rattle.screen.specs.declared.cells.Partial.{Partial}
use Rattle.screen.specs.Screen.{Geometry, Pen, Screen, Paper, quiet, put, on_row, wipe_from, rows_from}

-- from lo to hi
abbrev pub within : ℕ → ℕ → ℕ → Bool
within lo hi b = nat_le lo b && nat_le b hi

-- the parser in another state
abbrev pub into : Parser → Screen → Screen
into m s = record { pen = s.pen; top = s.top; held = s.held; parser = m }

-- nothing unfinished, and another pen
abbrev pub with_pen : Pen → Screen → Screen
with_pen p s = record { pen = p; top = s.top; held = s.held; parser = Ground }

-- what is unfinished is dropped, and the joining ends
abbrev pub dropped : Screen → Screen
dropped s = with_pen (quiet s.pen) s

-- the cell last taken, unless something unfinished is dropped
abbrev pub join_after : Parser → Option ℕ → Option ℕ
join_after Ground j = j
join_after Escape j = None
join_after (Sequence p) j = None
join_after (Character p) j = None

-- ESC starts a sequence, whatever is unfinished
abbrev pub escaped : Screen → Screen
escaped s = into Escape (record { pen = record { paper = s.pen.paper; row = s.pen.row; col = s.pen.col; join = join_after s.parser s.pen.join }; top = s.top; held = s.held; parser = s.parser })

-- a character of several bytes begins: what its first byte says of its number, how many are to come, and the bounds of the next
abbrev pub starts : ℕ → ℕ → ℕ → ℕ → Screen → Screen
starts v n lo hi s = into (Character (record { value = v; left = n; low = lo; high = hi })) s

-- the byte b where nothing is unfinished
unfoldable pub begin : Geometry → ℕ → Screen → Screen
begin d b s =
    cond (nat_lt b 128) (put d b s) (
    cond (within 194 223 b) (starts (b - 192) 1 128 191 s) (
    cond (b == 224) (starts 0 2 160 191 s) (
    cond (b == 237) (starts 13 2 128 159 s) (
    cond (within 225 239 b) (starts (b - 224) 2 128 191 s) (
    cond (b == 240) (starts 0 3 144 191 s) (
    cond (within 241 243 b) (starts (b - 240) 3 128 191 s) (
    cond (b == 244) (starts 4 3 128 143 s) (dropped s))))))))

-- the next byte of a character: the last one puts it
abbrev pub continue : Geometry → Partial → ℕ → Screen → Screen
continue d p b s =
    cond (nat_lt p.left 2) (put d (p.value * 64 + (b - 128)) s)
    (starts (p.value * 64 + (b - 128)) (p.left - 1) 128 191 s)

-- the bytes of ?2026
abbrev pub mode_byte : ℕ → ℕ
mode_byte k = cond (k == 0) 63 (cond (k == 1) 50 (cond (k == 2) 48 (cond (k == 3) 50 54)))

-- an ASCII digit
abbrev pub is_digit : ℕ → Bool
is_digit b = within 48 57 b

-- one more parameter byte; a number above 9,999 means 9,999
abbrev pub parameter : Parameters → ℕ → Parameters
parameter Bare b = cond (is_digit b) (Number (b - 48)) (cond (b == 59) (Numbers 0) (cond (b == 63) (Mode 1) Other))
parameter (Number n) b = cond (is_digit b) (Number (min (10 * n + (b - 48)) 9999)) (cond (b == 59) (Numbers n) Other)
parameter (Numbers n) b = cond (is_digit b || b == 59) (Numbers n) Other
parameter (Mode k) b = cond (nat_lt k 5 && b == mode_byte k) (Mode (suc k)) Other
parameter Other b = Other

-- the cursor at row i, column j
abbrev pub at : ℕ → ℕ → Screen → Screen
at i j s = with_pen (record { paper = s.pen.paper; row = i; col = j; join = None }) s

-- a full row counts as its last column
abbrev pub column : Geometry → Screen → ℕ
column d s = min s.pen.col (d.cols - 1)

-- the window's last row
abbrev pub bottom : Geometry → Screen → ℕ
bottom d s = s.top + d.rows - 1

-- finals A, B, C, D: up, down, right, left by n, stopping at the window's edges; others do nothing
unfoldable pub move : Geometry → ℕ → ℕ → Screen → Screen
move d b n s =
    cond (b == 65) (at (max s.top (s.pen.row - n)) (column d s) s) (
    cond (b == 66) (at (min (bottom d s) (s.pen.row + n)) (column d s) s) (
    cond (b == 67) (at s.pen.row (min (d.cols - 1) (column d s + n)) s) (
    cond (b == 68) (at s.pen.row (column d s - n) s) (dropped s))))

-- the cursor's row blanked from the cursor on
abbrev pub wiped : Geometry → Screen → Paper
wiped d s = on_row s.pen.row (wipe_from (column d s)) s.pen.paper

-- another paper, the cursor where it was
abbrev pub inked : Paper → Screen → Screen
inked p s = with_pen (record { paper = p; row = s.pen.row; col = s.pen.col; join = None }) s

-- the held mark set or cleared
abbrev pub holding : Bool → Screen → Screen
holding h s = record { pen = quiet s.pen; top = s.top; held = h; parser = Ground }

-- what the final byte b does behind parameters, m excepted: H goes to the window's top left, J blanks to the window's end, K to the row's;
-- an absent number or 0 means 1
unfoldable pub act : Geometry → Parameters → ℕ → Screen → Screen
act d Bare b s =
    cond (b == 72) (at s.top 0 s) (
    cond (b == 74) (inked (rows_from (suc s.pen.row) (bottom d s) (wiped d s)) s) (
    cond (b == 75) (inked (wiped d s) s) (move d b 1 s)))
act d (Number n) b s = move d b (max 1 n) s
act d (Numbers n) b s = move d b (max 1 n) s
act d (Mode k) b s = cond (k == 5) (cond (b == 104) (holding true s) (cond (b == 108) (holding false s) (dropped s))) (dropped s)
act d Other b s = dropped s

-- the final byte of a sequence: m alters nothing, and the joining goes on
unfoldable pub finish : Geometry → Parameters → ℕ → Screen → Screen
finish d p b s = cond (b == 109) (into Ground s) (act d p b s)

-- the byte b, no ESC, by what is unfinished
unfoldable pub step_in : Geometry → Parser → ℕ → Screen → Screen
step_in d Ground b s = begin d b s
step_in d Escape b s = cond (b == 91) (into (Sequence Bare) s) (dropped s)
step_in d (Sequence p) b s =
    cond (within 48 63 b) (into (Sequence (parameter p b)) s) (
    cond (within 64 126 b) (finish d p b s) (dropped s))
step_in d (Character p) b s = cond (within p.low p.high b) (continue d p b s) (begin d b (dropped s))

-- one byte
abbrev pub step : Geometry → ℕ → Screen → Screen
step d b s = cond (b == 27) (escaped s) (step_in d s.parser b s)

-- bytes, one after the other
abbrev pub feed : Geometry → List ℕ → Screen → Screen
feed d [] s = s
feed d (b ∷ bs) s = feed d bs (step d b s)
