-- What bytes do to wide characters and marks, on a blank screen of five columns with the Eastern table. Assumes nothing.
use Rattle.std.specs.Prelude.{◌≡◌, ℕ, true, false, List, [], ◌∷◌, ◌++◌, map, Some, None, codes}
use Rattle.std.proofs.Math.Utf8.{encode}
use Rattle.screen.specs.Bytes.{feed}
use Rattle.screen.specs.Places.{spot_of}
use Rattle.screen.specs.Screen.{Screen, blank_screen}
use Rattle.screen.specs.Sequences.{are_parameters}
use Rattle.screen.specs.declared.cells.Cell.{Cell}
use Rattle.screen.specs.declared.cells.Cell.TheVariants.{Blank, Glyph, RightHalf}
use Rattle.widths.specs.Widths.{eastern}
use Rattle.worked.specs.Places.{five_columns, place}

-- U+4E2D, two columns wide
abbrev pub wide : ℕ
wide = 0x4E2D

-- its bytes
abbrev pub wide_bytes : List ℕ
wide_bytes = encode wide

-- U+0301, a mark
abbrev pub acute : ℕ
acute = 0x0301

-- its bytes
abbrev pub acute_bytes : List ℕ
acute_bytes = encode acute

-- the screen after some bytes
abbrev pub after : List ℕ → Screen
after bs = feed (five_columns eastern) bs blank_screen

-- the five cells of a row after some bytes
abbrev pub row_after : ℕ → List ℕ → List Cell
row_after i bs = map ((after bs).pen.paper i) (0 ∷ 1 ∷ 2 ∷ 3 ∷ 4 ∷ [])

-- a character with no mark
abbrev pub alone : ℕ → Cell
alone c = Glyph c None

-- a character with the acute
abbrev pub accented : ℕ → Cell
accented c = Glyph c (Some acute)

-- to touch half of a wide character blanks the other half
pub record WorkedHalves : Type 0 where
  pub drawn : row_after 0 wide_bytes ≡ alone wide ∷ RightHalf ∷ Blank ∷ Blank ∷ Blank ∷ []
  pub left-taken : row_after 0 (wide_bytes ++ (13 ∷ codes "a")) ≡ alone 97 ∷ Blank ∷ Blank ∷ Blank ∷ Blank ∷ []
  pub right-taken : row_after 0 (wide_bytes ++ (13 ∷ 27 ∷ codes "[Ca")) ≡ Blank ∷ alone 97 ∷ Blank ∷ Blank ∷ Blank ∷ []
  pub both-taken : row_after 0 (wide_bytes ++ (wide_bytes ++ (13 ∷ 27 ∷ codes "[C" ++ wide_bytes))) ≡ Blank ∷ alone wide ∷ RightHalf ∷ Blank ∷ Blank ∷ []
  pub right-erased : row_after 0 (wide_bytes ++ (13 ∷ 27 ∷ codes "[C" ++ (27 ∷ codes "[K"))) ≡ Blank ∷ Blank ∷ Blank ∷ Blank ∷ Blank ∷ []
  pub last-erased : row_after 0 (codes "abc" ++ (wide_bytes ++ (27 ∷ codes "[K"))) ≡ alone 97 ∷ alone 98 ∷ alone 99 ∷ Blank ∷ Blank ∷ []

-- a wide character that does not fit the last column goes to the next row
pub record WorkedWrap : Type 0 where
  pub left_out : row_after 0 (codes "abcd" ++ wide_bytes) ≡ alone 97 ∷ alone 98 ∷ alone 99 ∷ alone 100 ∷ Blank ∷ []
  pub next_row : row_after 1 (codes "abcd" ++ wide_bytes) ≡ alone wide ∷ RightHalf ∷ Blank ∷ Blank ∷ Blank ∷ []
  pub cursor : spot_of (after (codes "abcd" ++ wide_bytes)).pen ≡ place 2 1

-- a mark joins the character drawn last, the left half of a wide one; style sequences do not come between them, and whatever else comes does
pub record WorkedMarks : Type 0 where
  pub on-wide : row_after 0 (wide_bytes ++ acute_bytes) ≡ accented wide ∷ RightHalf ∷ Blank ∷ Blank ∷ Blank ∷ []
  pub replaced : row_after 0 (97 ∷ encode 0x0302 ++ acute_bytes) ≡ accented 97 ∷ Blank ∷ Blank ∷ Blank ∷ Blank ∷ []
  pub full-row : row_after 0 (codes "abcde" ++ acute_bytes) ≡ alone 97 ∷ alone 98 ∷ alone 99 ∷ alone 100 ∷ accented 101 ∷ []
  pub after-style : row_after 0 (97 ∷ 27 ∷ codes "[1m" ++ acute_bytes) ≡ accented 97 ∷ Blank ∷ Blank ∷ Blank ∷ Blank ∷ []
  pub after-move : row_after 0 (97 ∷ 27 ∷ codes "[A" ++ acute_bytes) ≡ alone 97 ∷ Blank ∷ Blank ∷ Blank ∷ Blank ∷ []
  pub after-torn : row_after 0 (97 ∷ 204 ∷ 27 ∷ codes "[m" ++ acute_bytes) ≡ alone 97 ∷ Blank ∷ Blank ∷ Blank ∷ Blank ∷ []

-- the bytes that the law about control sequences takes as parameters: 0x30 to 0x3F
pub record WorkedParameters : Type 0 where
  pub all : are_parameters (codes "0123456789:;<=>?") ≡ true
  pub others : map (λ b. are_parameters (b ∷ [])) (0x2F ∷ 0x40 ∷ []) ≡ false ∷ false ∷ []

-- a control, dropped bytes, erasing and mode 2026 end the joining; bytes that are no UTF-8 draw nothing, but one that ends a character too soon counts for itself; a byte behind ESC draws nothing; a move stops at the last column
pub record WorkedDrops : Type 0 where
  pub after-control : row_after 0 (97 ∷ 7 ∷ acute_bytes) ≡ alone 97 ∷ Blank ∷ Blank ∷ Blank ∷ Blank ∷ []
  pub after-no_lead : row_after 0 (97 ∷ 255 ∷ acute_bytes) ≡ alone 97 ∷ Blank ∷ Blank ∷ Blank ∷ Blank ∷ []
  pub after-escapes : row_after 0 (97 ∷ 27 ∷ 27 ∷ codes "[m" ++ acute_bytes) ≡ alone 97 ∷ Blank ∷ Blank ∷ Blank ∷ Blank ∷ []
  pub after-cut : row_after 0 (97 ∷ 27 ∷ codes "[" ++ (27 ∷ codes "[m" ++ acute_bytes)) ≡ alone 97 ∷ Blank ∷ Blank ∷ Blank ∷ Blank ∷ []
  pub after-erasing : row_after 0 (97 ∷ 27 ∷ codes "[K" ++ acute_bytes) ≡ alone 97 ∷ Blank ∷ Blank ∷ Blank ∷ Blank ∷ []
  pub after-hold : row_after 0 (97 ∷ 27 ∷ codes "[?2026h" ++ acute_bytes) ≡ alone 97 ∷ Blank ∷ Blank ∷ Blank ∷ Blank ∷ []
  pub counts-itself : row_after 0 (195 ∷ codes "a") ≡ alone 97 ∷ Blank ∷ Blank ∷ Blank ∷ Blank ∷ []
  pub two-overlong : row_after 0 (193 ∷ 161 ∷ codes "b") ≡ alone 98 ∷ Blank ∷ Blank ∷ Blank ∷ Blank ∷ []
  pub three-overlong : row_after 0 (224 ∷ 129 ∷ 129 ∷ codes "b") ≡ alone 98 ∷ Blank ∷ Blank ∷ Blank ∷ Blank ∷ []
  pub four-overlong : row_after 0 (240 ∷ 129 ∷ 129 ∷ 129 ∷ codes "b") ≡ alone 98 ∷ Blank ∷ Blank ∷ Blank ∷ Blank ∷ []
  pub surrogate : row_after 0 (237 ∷ 160 ∷ 128 ∷ codes "b") ≡ alone 98 ∷ Blank ∷ Blank ∷ Blank ∷ Blank ∷ []
  pub past-last : row_after 0 (244 ∷ 144 ∷ 128 ∷ 128 ∷ codes "b") ≡ alone 98 ∷ Blank ∷ Blank ∷ Blank ∷ Blank ∷ []
  pub behind-escape : row_after 0 (27 ∷ codes "7b") ≡ alone 98 ∷ Blank ∷ Blank ∷ Blank ∷ Blank ∷ []
  pub right-edge : spot_of (after (27 ∷ codes "[9C")).pen ≡ place 4 0
