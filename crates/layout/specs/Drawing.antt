-- Where characters end that are drawn one by one on rows of so many columns. Assumes nothing.
use Rattle.std.specs.Prelude.{ℕ, cond, List, [], ◌∷◌, ◌==◌}
use Rattle.layout.specs.declared.layout.Position.{Position}
use Rattle.layout.specs.Measuring.{next_row, behind}

-- one character: LF goes to the next row, any other behind its columns
abbrev pub step_place : ℕ → (ℕ → ℕ) → ℕ → Position → Position
step_place cols w c p = cond (c == 10) (next_row p) (behind cols (w c) p)

-- one character after the other
abbrev pub walk_place : ℕ → (ℕ → ℕ) → List ℕ → Position → Position
walk_place cols w [] p = p
walk_place cols w (c ∷ cs) p = walk_place cols w cs (step_place cols w c p)
