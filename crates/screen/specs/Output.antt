-- The byte strings that draw, erase and move on a terminal. Assumes nothing.
use Rattle.std.specs.Prelude.{ℕ, zero, suc, ◌-◌, Bool, true, false, cond, List, [], ◌∷◌, ◌++◌, codes, decimal, nat_lt}
use Rattle.screen.specs.Screen.{Geometry, block, full, place_col, place_row}

-- ESC, [, a number in decimal and a final byte
abbrev pub move_by : ℕ → ℕ → List ℕ
move_by b n = 27 ∷ 91 ∷ (decimal n ++ (b ∷ []))

-- so many rows down, nothing for none
abbrev pub down_by : ℕ → List ℕ
down_by zero = []
down_by (suc k) = move_by 66 (suc k)

-- so many rows up, nothing for none
abbrev pub up_by : ℕ → List ℕ
up_by zero = []
up_by (suc k) = move_by 65 (suc k)

-- n times a row erased and one row up, then the first row erased
abbrev pub rows_up : ℕ → List ℕ
rows_up zero = 13 ∷ 27 ∷ 91 ∷ 75 ∷ []
rows_up (suc n) = 13 ∷ 27 ∷ 91 ∷ 75 ∷ 27 ∷ 91 ∷ 65 ∷ rows_up n

-- a block is erased from k rows above its last row, n rows below its first
abbrev pub erase_bytes : ℕ → ℕ → List ℕ
erase_bytes k n = down_by k ++ rows_up n

-- an LF behind a full row
abbrev pub closing : Bool → List ℕ
closing true = 10 ∷ []
closing false = []

-- the row's start, and from there to a column
abbrev pub to_column : ℕ → List ℕ
to_column zero = 13 ∷ []
to_column (suc j) = 13 ∷ move_by 67 (suc j)

-- home and erase
abbrev pub clear_bytes : List ℕ
clear_bytes = 27 ∷ 91 ∷ 72 ∷ 27 ∷ 91 ∷ 74 ∷ []

-- begins a held update
abbrev pub hold_bytes : List ℕ
hold_bytes = 27 ∷ codes "[?2026h"

-- ends it
abbrev pub release_bytes : List ℕ
release_bytes = 27 ∷ codes "[?2026l"

-- the styled text bs of the characters ds is written from the start of a row, and the cursor goes to the place of es
abbrev pub draw_bytes : Geometry → List ℕ → List ℕ → List ℕ → List ℕ
draw_bytes d bs ds es = bs ++ (closing (full d (block d ds)) ++ (up_by (place_row d (block d ds) - place_row d (block d es)) ++ to_column (place_col d (block d es))))

-- the same after a block whose end is in row n is erased from row i
abbrev pub refresh_bytes : Geometry → ℕ → ℕ → List ℕ → List ℕ → List ℕ → List ℕ
refresh_bytes d n i bs ds es = erase_bytes (n - i) n ++ draw_bytes d bs ds es

-- a single move goes without its number
abbrev pub shift_by : ℕ → ℕ → List ℕ
shift_by b zero = []
shift_by b (suc zero) = 27 ∷ 91 ∷ b ∷ []
shift_by b (suc (suc n)) = move_by b (suc (suc n))

-- from a number to another, by the final bytes for more and for less
abbrev pub shift_from : ℕ → ℕ → ℕ → ℕ → List ℕ
shift_from more less i k = cond (nat_lt i k) (shift_by more (k - i)) (shift_by less (i - k))

-- from the place (i, j) to the place (k, l), rows first
abbrev pub move_bytes : ℕ → ℕ → ℕ → ℕ → List ℕ
move_bytes i j k l = shift_from 66 65 i k ++ shift_from 67 68 j l
