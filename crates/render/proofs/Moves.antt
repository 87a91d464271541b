-- How long the moves and erasures are.
use Rattle.std.proofs.Common.{◌≡◌, ℕ, zero, suc, ◌+◌, ◌-◌, ◌*◌, ◌^◌, ◌<◌, ◌≤◌, Bool, true, false, cond, ltb, List, [], ◌∷◌, ◌++◌, length, Some, None, decimal, Option, sym, refl, ap, ◌∙◌, arith, length-append}
use Rattle.layout.specs.declared.block.Layout.{Layout}
use Rattle.buffer.proofs.Repeats.{length-repeat}
use Rattle.std.specs.List.{repeat}
use Rattle.render.specs.Composing.{some_move}
use Rattle.render.specs.Drawing.{erase_layout, old_rows, place_layout}
use Rattle.screen.specs.Output.{closing, down_by, move_by, rows_up, shift_by, shift_from, to_column, up_by}
use Rattle.std.proofs.lemmas.Fmt.{length-decimal-le}

pub move-length : (b k n : ℕ) → 0 < k → n < 10 ^ k → n < 2 ^ 64 → length (move_by b n) ≤ k + 3
move-length b k n some h small = omega (arith, length-append (decimal n) (b ∷ []), length-decimal-le k n some h small)

-- by a number of 16 bits
pub shift-length : (b n : ℕ) → n < 65536 → length (shift_by b n) ≤ 8
shift-length b zero h = omega arith
shift-length b (suc zero) h = omega arith
shift-length b (suc (suc n)) h = move-length b 5 (suc (suc n)) (omega arith) (omega arith) (omega arith)

pub shift-from-length : (more less i k : ℕ) → i < 65536 → k < 65536 → length (shift_from more less i k) ≤ 8
shift-from-length more less i k hi hk =
    elim (ltb i k) as (λ b. length (cond b (shift_by more (k - i)) (shift_by less (i - k))) ≤ 8) [ true ↦ shift-length more (k - i) (omega arith) | false ↦ shift-length less (i - k) (omega arith) ]

-- over fewer than a thousand rows or columns
pub some-length : (b n : ℕ) → n < 1000 → length (some_move b n) ≤ 6
some-length b zero h = omega arith
some-length b (suc n) h = move-length b 3 (suc n) (omega arith) h (omega arith)

-- down, up and to the right
pub some-down : (n : ℕ) → some_move 66 n ≡ down_by n
some-down zero = refl
some-down (suc n) = refl

pub some-up : (n : ℕ) → some_move 65 n ≡ up_by n
some-up zero = refl
some-up (suc n) = refl

pub some-column : (n : ℕ) → 13 ∷ some_move 67 n ≡ to_column n
some-column zero = refl
some-column (suc n) = refl

-- a row erased and one row up
abbrev pub row_up : List ℕ
row_up = 13 ∷ 27 ∷ 91 ∷ 75 ∷ 27 ∷ 91 ∷ 65 ∷ []

abbrev pub last_row : List ℕ
last_row = 13 ∷ 27 ∷ 91 ∷ 75 ∷ []

pub rows-up : (n : ℕ) → repeat n row_up ++ last_row ≡ rows_up n
rows-up zero = refl
rows-up (suc n) = ap (λ (l : List ℕ). 13 ∷ 27 ∷ 91 ∷ 75 ∷ 27 ∷ 91 ∷ 65 ∷ l) (rows-up n)

pub rows-room : (before : List ℕ) (n : ℕ) → length (before ++ repeat n row_up) ≡ length before + n * 7
rows-room before n = length-append before (repeat n row_up) ∙ ap (λ k. length before + k) (length-repeat n row_up)

pub rows-length : (n : ℕ) → length (rows_up n) ≡ n * 7 + 4
rows-length n = ap length (sym (rows-up n)) ∙ length-append (repeat n row_up) last_row ∙ ap (λ k. k + 4) (length-repeat n row_up)

-- a layout has at most 200 rows and 500 columns
pub erase-length : (l : Layout) → length (erase_layout l) ≤ 1403
erase-length l =
    let low = l.low in
    omega (arith, length-append (down_by (l.end.row - l.cursor.row)) (rows_up l.end.row), ap length (some-down (l.end.row - l.cursor.row)), some-length 66 (l.end.row - l.cursor.row) (omega arith), rows-length l.end.row)

pub old-length : (o : Option Layout) → length (old_rows o) ≤ 1403
old-length None = omega arith
old-length (Some l) = erase-length l

pub closing-length : (b : Bool) → length (closing b) ≤ 1
closing-length true = omega arith
closing-length false = omega arith

pub place-length : (l : Layout) → length (place_layout l) ≤ 14
place-length l =
    let low = l.low in
    let within = l.within in
    let up = up_by (l.end.row - l.cursor.row) in
    let column = to_column l.cursor.col in
    omega (arith, length-append (closing l.full) (up ++ column), length-append up column, closing-length l.full, ap length (some-up (l.end.row - l.cursor.row)), some-length 65 (l.end.row - l.cursor.row) (omega arith), ap length (some-column l.cursor.col), some-length 67 l.cursor.col (omega arith))
