-- The screen that a grid means. Assumes nothing.
use Rattle.std.specs.Prelude.{◌≡◌, ℕ, ◌+◌, ◌*◌, ◌/◌, cond, List, vec_items, nat_lt, slice_index_or}
use Rattle.screen.specs.Screen.{Screen, Geometry, Row, Paper, blank_screen}
use Rattle.screen.specs.declared.cells.Cell.{Cell}
use Rattle.screen.specs.declared.cells.Cell.TheVariants.{Blank}
use Rattle.terminal.specs.Windows.{geometry}
use Rattle.terminal.specs.declared.size.Size.{Size}
use Rattle.grid.specs.declared.grid.Grid.{Grid}

-- one row's cells, and blank ones behind them
abbrev pub row_of : List Cell → Row
row_of cells = λ j. slice_index_or cells j Blank

-- rows of so many cells, one after the other; the rest of the paper is blank
abbrev pub paper_of : ℕ → List Cell → Paper
paper_of cols cells = λ i j. cond (nat_lt j cols) (slice_index_or cells (i * cols + j) Blank) Blank

-- the screen that a grid shows
abbrev pub shown : {W : Type 0} → Grid W → Screen
shown g = record { pen = record { paper = paper_of g.size.cols (vec_items g.cells); row = g.row; col = g.col; join = g.join }; top = g.top; held = g.held; parser = g.parser }

-- the widths of characters, and the window's size
abbrev pub area : {W : Type 0} → (ℕ → ℕ) → Grid W → Geometry
area w g = geometry w g.size

-- a grid made of n cells: it shows a blank screen, and has as many rows of paper as the cells make
pub record Opened {W : Type 0} (table : W) (n : ℕ) (window : Size) (g : Grid W) : Type 0 where
  pub shows : shown g ≡ blank_screen
  pub depth : g.depth ≡ n / window.cols
  pub size : g.size ≡ window
  pub widths : g.widths ≡ table
