-- Where texts end at five columns, the prompt `> ` before each line. Assumes nothing.
use Rattle.std.specs.Prelude.{◌≡◌, ℕ, List, [], ◌∷◌, ◌++◌, codes}
use Rattle.layout.specs.Measuring.{measured}
use Rattle.layout.specs.declared.layout.Position.{Position}
use Rattle.screen.specs.Places.{place_of, top_left}
use Rattle.screen.specs.Screen.{Geometry, block}
use Rattle.widths.specs.Widths.{eastern, latin}

-- a window of 5 columns by 24 rows, with a width table
abbrev pub five_columns : (ℕ → ℕ) → Geometry
five_columns w = record { width = w; cols = 5; rows = 24 }

-- a column and a row
abbrev pub place : ℕ → ℕ → Position
place j i = record { col = j; row = i }

-- characters are measured to end at a place, whatever the tab stop, and drawing them ends there too
pub record EndsAt (w : ℕ → ℕ) (cs : List ℕ) (p : Position) : Type 0 where
  pub measuring : (tab : ℕ) → measured w 5 tab cs top_left ≡ p
  pub drawing : place_of (five_columns w) (block (five_columns w) cs) ≡ p

-- a full row counts as column 0 of the next, an LF behind it goes no further, and a wide character that does not fit begins the next row
pub record WorkedPlaces : Type 0 where
  pub full-row : EndsAt latin (codes "> abc") (place 0 1)
  pub one_more : EndsAt latin (codes "> abcd") (place 1 1)
  pub wide : EndsAt eastern (codes "> ab" ++ (0x4E2D ∷ [])) (place 2 1)
  pub newline : EndsAt latin (codes "> abc" ++ (10 ∷ codes "d")) (place 1 1)
