-- Which screens are ready, clause by clause. Assumes nothing.
use Rattle.std.specs.Prelude.{ℕ, Bool, true, false, cond, ◌&&◌, None, ◌==◌}
use Rattle.screen.specs.Screen.{Paper, Screen, blank_paper, blank_screen}
use Rattle.screen.specs.declared.cells.Cell.TheVariants.{Blank, Glyph}
use Rattle.screen.specs.declared.cells.Parser.{Parser}
use Rattle.screen.specs.declared.cells.Parser.TheVariants.{Escape, Ground}
use Rattle.terminal.specs.Windows.{Ready}

-- a screen whose cursor is in row 3, with its column, its paper, its mark of a held update and what is unfinished
abbrev pub at_row_three : ℕ → Paper → Bool → Parser → Screen
at_row_three col paper held parser = record { pen = record { paper = paper; row = 3; col = col; join = None }; top = 0; held = held; parser = parser }

-- paper with one letter on it
abbrev pub letter_at : ℕ → ℕ → Paper
letter_at row col = λ i j. cond (i == row && j == col) (Glyph 97 None) Blank

-- ready is a screen blank from the cursor's row on, whatever stands above it; one is not with the cursor past column 0, with a letter in the cursor's row or below it, with an update held, or in the middle of a sequence
pub record WorkedReady : Type 0 where
  pub blank-ready : Ready blank_screen
  pub above-ready : Ready (at_row_three 0 (letter_at 2 0) false Ground)
  pub column-not : Ready (at_row_three 1 blank_paper false Ground) → ⊥
  pub row-not : Ready (at_row_three 0 (letter_at 3 4) false Ground) → ⊥
  pub below-not : Ready (at_row_three 0 (letter_at 9 0) false Ground) → ⊥
  pub held-not : Ready (at_row_three 0 blank_paper true Ground) → ⊥
  pub unfinished-not : Ready (at_row_three 0 blank_paper false Escape) → ⊥
