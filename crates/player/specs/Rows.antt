-- Which rows of a screen a report shows. Assumes nothing.
use Rattle.std.specs.Prelude.{◌≡◌, ℕ, ◌+◌, ◌^◌, ◌<◌, ◌≤◌}
use Rattle.screen.specs.Screen.{Screen}
use Rattle.screen.specs.declared.cells.Cell.TheVariants.{Blank}

-- a row is blank in the window's columns
abbrev pub BlankRow : ℕ → Screen → ℕ → Type 0
BlankRow cols s i = (j : ℕ) → j < cols → s.pen.paper i j ≡ Blank

-- the last row that is shown: none behind it in the window holds the cursor, and each of them is blank
pub record LastRow (rows cols : ℕ) (s : Screen) (last : ℕ) : Type 0 where
  pub cursor : s.pen.row ≤ last
  pub behind : (i : ℕ) → last < i → i < s.top + rows → i + 1 < 2 ^ 64 → BlankRow cols s i
