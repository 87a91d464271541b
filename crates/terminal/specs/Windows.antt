-- A terminal's window on its paper. Assumes nothing.
use Rattle.std.specs.Prelude.{◌≡◌, ℕ, ◌+◌, ◌<◌, ◌≤◌, false, Some}
use Rattle.screen.specs.Screen.{Screen, Geometry}
use Rattle.screen.specs.declared.cells.Cell.TheVariants.{Blank}
use Rattle.screen.specs.declared.cells.Parser.TheVariants.{Ground}
use Rattle.terminal.specs.declared.size.Size.{Size}

-- a window of a size, and the widths of characters
abbrev pub geometry : (ℕ → ℕ) → Size → Geometry
geometry w z = record { width = w; cols = z.cols; rows = z.rows }

-- the cursor is inside the window, and the cell last taken is left of it
pub record Inside (d : Geometry) (s : Screen) : Type 0 where
  pub above : s.top ≤ s.pen.row
  pub below : s.pen.row < s.top + d.rows
  pub left : s.pen.col ≤ d.cols
  pub taken : (j : ℕ) → s.pen.join ≡ Some j → j < s.pen.col

-- the cursor in column 0, that row and all below it blank, no update held and nothing unfinished
pub record Ready (s : Screen) : Type 0 where
  pub column : s.pen.col ≡ 0
  pub blank : (i j : ℕ) → s.pen.row ≤ i → s.pen.paper i j ≡ Blank
  pub free : s.held ≡ false
  pub finished : s.parser ≡ Ground
