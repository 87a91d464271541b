-- What always holds of a grid's joining and of its unfinished character. Assumes nothing.
use Rattle.std.specs.Prelude.{ℕ, ◌+◌, ◌-◌, ◌*◌, Bool, true, cond, ◌&&◌, ◌||◌, Some, None, Option, nat_le, nat_lt}
use Rattle.screen.specs.declared.cells.Parser.{Parser}
use Rattle.screen.specs.declared.cells.Parser.TheVariants.{Ground, Escape, Sequence, Character}
use Rattle.screen.specs.declared.cells.Partial.{Partial}

-- the cell last taken is left of column c
abbrev pub behind : Option ℕ → ℕ → Bool
behind None c = true
behind (Some j) c = nat_lt j c

-- how many characters begin with the same bytes, so many of them still to come
abbrev pub span : ℕ → ℕ
span left = cond (nat_lt left 2) 1 (cond (nat_lt left 3) 64 4096)

-- the first character that the bytes to come can give
abbrev pub lowest : Partial → ℕ
lowest p = (p.value * 64 + (p.low - 128)) * span p.left

-- the first one past those
abbrev pub beyond : Partial → ℕ
beyond p = (p.value * 64 + (p.high - 127)) * span p.left

-- one to three bytes are to come, the next is from 128 to 191, and whatever they are, they give a Unicode scalar value
abbrev pub sure : Partial → Bool
sure p =
    (nat_le 1 p.left && nat_le p.left 3) && ((nat_le 128 p.low && nat_le p.high 191)
    && (nat_le (beyond p) 0xD800 || (nat_le 0xE000 (lowest p) && nat_le (beyond p) 0x110000)))

abbrev pub bounded : Parser → Bool
bounded Ground = true
bounded Escape = true
bounded (Sequence p) = true
bounded (Character p) = sure p
