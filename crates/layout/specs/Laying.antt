-- Layouts: the places of a block's parts in a window. Assumes nothing.
use Rattle.std.specs.Prelude.{◌≡◌, ℕ, Bool, true, false, ◌&&◌, Some, None, Option, ◌==◌, nat_le, nat_lt}
use Rattle.layout.specs.Measuring.{at_end}
use Rattle.layout.specs.declared.block.Layout.{Layout}
use Rattle.layout.specs.declared.layout.Position.{Position}

-- row 0, column 0
abbrev pub corner : Position
corner = record { col = 0; row = 0 }

-- a layout has the places reached, a full row counting as column 0 of the next, and tells whether the last is on a full row
pub record LaidAs (cols : ℕ) (p c e : Position) (l : Layout) : Type 0 where
  pub prompt : l.prompt_size ≡ at_end cols p
  pub cursor : l.cursor ≡ at_end cols c
  pub end : l.end ≡ at_end cols e
  pub full : l.full ≡ (e.col == cols)

-- the places are in order by their rows, and a window of so many rows holds them
abbrev pub ordered : ℕ → Position → Position → Position → Bool
ordered rows prompt cursor end =
    (nat_lt end.row rows && (nat_lt end.row 200 && nat_lt cursor.col 500))
    && (nat_le prompt.row cursor.row && nat_le cursor.row end.row)

-- a layout of three places, exactly if they are in order and the window holds them
abbrev pub Lays : ℕ → ℕ → Position → Position → Position → Option Layout → Type 0
Lays cols rows prompt cursor end (Some l) = (ordered rows (at_end cols prompt) (at_end cols cursor) (at_end cols end) ≡ true) × LaidAs cols prompt cursor end l
Lays cols rows prompt cursor end None = ordered rows (at_end cols prompt) (at_end cols cursor) (at_end cols end) ≡ false

-- a layout with another cursor, all else as it was
pub record Moved (old : Layout) (place : Position) (l : Layout) : Type 0 where
  pub prompt : l.prompt_size ≡ old.prompt_size
  pub cursor : l.cursor ≡ place
  pub end : l.end ≡ old.end
  pub full : l.full ≡ old.full

-- exactly if the cursor is not below the end and in one of 500 columns
abbrev pub Moves : Layout → Position → Option Layout → Type 0
Moves old place (Some l) = ((nat_le place.row old.end.row && nat_lt place.col 500) ≡ true) × Moved old place l
Moves old place None = (nat_le place.row old.end.row && nat_lt place.col 500) ≡ false

-- a layout with its cursor at its end, on a row that is not full, the prompt as it was
pub record Ended (old : Layout) (place : Position) (l : Layout) : Type 0 where
  pub prompt : l.prompt_size ≡ old.prompt_size
  pub cursor : l.cursor ≡ place
  pub end : l.end ≡ place
  pub full : l.full ≡ false

-- exactly if a window of 200 rows and 500 columns holds the place
abbrev pub Ends : Layout → Position → Option Layout → Type 0
Ends old place (Some l) = ((nat_lt place.row 200 && nat_lt place.col 500) ≡ true) × Ended old place l
Ends old place None = (nat_lt place.row 200 && nat_lt place.col 500) ≡ false
