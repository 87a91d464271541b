-- How many columns a character takes. Assumes nothing.
use Rattle.std.specs.Prelude.{ℕ, ◌+◌, min, Bool, true, cond, ◌&&◌, List, [], ◌∷◌, nat_le}
use Rattle.widths.specs.declared.ranges.WidthRange.{WidthRange}

abbrev pub range : ℕ → ℕ → ℕ → WidthRange
range a b w = record { first = a; last = b; width = w }

-- controls, combining marks and the zero-width joiner take no column;
-- kana, ideographs, Hangul syllables and full-width forms take two
abbrev pub ranges : List WidthRange
ranges =
    range 0x0000 0x001F 0 ∷ range 0x007F 0x009F 0 ∷ range 0x0300 0x036F 0 ∷ range 0x200D 0x200D 0
    ∷ range 0x3041 0x3096 2 ∷ range 0x30A1 0x30FA 2 ∷ range 0x4E00 0x9FFF 2 ∷ range 0xAC00 0xD7A3 2 ∷ range 0xFF01 0xFF60 2 ∷ []

-- the width that a list of ranges gives: 1 outside them all
abbrev pub listed : List WidthRange → ℕ → ℕ
listed [] c = 1
listed (r ∷ rs) c = cond (nat_le r.first c && nat_le c r.last) r.width (listed rs c)

-- each range begins past the end of the one before, the first at n or later
abbrev pub ascending : ℕ → List WidthRange → Bool
ascending n [] = true
ascending n (r ∷ rs) = nat_le n r.first && (nat_le r.first r.last && ascending (r.last + 1) rs)

-- the Eastern table: every range counts
abbrev pub eastern : ℕ → ℕ
eastern c = listed ranges c

-- the Latin table: nothing is wide
abbrev pub latin : ℕ → ℕ
latin c = min (listed ranges c) 1
