-- Where a text ends, measured and drawn. Assumes nothing.
use Rattle.std.specs.Prelude.{◌≡◌, ℕ, ◌<◌, ◌≤◌, List}
use Rattle.layout.specs.Measuring.{measured}
use Rattle.layout.specs.declared.layout.Position.{Position}
use Rattle.screen.specs.Bytes.{feed}
use Rattle.screen.specs.Screen.{Geometry, Pen, blank_screen, place_col, place_row}
use Rattle.text.specs.Texts.{Styled}

-- the cursor's column and row
abbrev pub spot_of : Pen → Position
spot_of p = record { col = p.col; row = p.row }

-- the cursor's place, a full row counting as column 0 of the next
abbrev pub place_of : Geometry → Pen → Position
place_of d p = record { col = place_col d p; row = place_row d p }

-- the top left
abbrev pub top_left : Position
top_left = record { col = 0; row = 0 }

-- the visible text of a good styled text is measured to end where drawing the styled text ends
abbrev pub Places : Type 0
Places = (d : Geometry) → 2 ≤ d.cols → 0 < d.rows → ((c : ℕ) → d.width c ≤ 2) → (tab : ℕ) (bs cs : List ℕ) → Styled bs cs
    → measured d.width d.cols tab cs top_left ≡ place_of d (feed d bs blank_screen).pen
