-- The lines of a text. Assumes nothing.
use Rattle.std.specs.Prelude.{ℕ, cond, ◌==◌, List, [], ◌∷◌}
use Rattle.std.specs.List.{onto_first}
use Rattle.text.specs.declared.lines.Lines.{Lines}

-- what LF ends, and what stands behind the last LF, if anything does
abbrev pub lines_of : List ℕ → List (List ℕ)
lines_of [] = []
lines_of (b ∷ bs) = cond (b == 10) ([] ∷ lines_of bs) (onto_first b (lines_of bs))

-- the lines that are still to come
abbrev pub lines_left : Lines → List (List ℕ)
lines_left lines = lines_of lines.rest.now
