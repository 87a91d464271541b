-- Which bracket is lit in a line. Assumes nothing.
use Rattle.std.specs.Prelude.{◌≡◌, ℕ, List, ◌∷◌, ◌++◌, Some, None, codes}
use Rattle.highlight.specs.Brackets.{checked}
use Rattle.highlight.specs.Lighting.{lit, to_light}

-- a line as it is drawn once a position in it was looked at
abbrev pub lit_at : List ℕ → ℕ → List ℕ
lit_at line pos = lit line (to_light (checked line pos) line)

-- behind the last bracket its partner is lit, under the first bracket the last; an opening bracket is not found from the end, nor a closing one at the start
pub record WorkedBrackets : Type 0 where
  pub found-behind : checked (codes "(a)") 3 ≡ Some (record { byte = 41; at = 2 })
  pub lit-behind : lit_at (codes "(a)") 3 ≡ 27 ∷ codes "[1;34m(" ++ (27 ∷ codes "[0ma)")
  pub found-under : checked (codes "(a)") 0 ≡ Some (record { byte = 40; at = 0 })
  pub lit-under : lit_at (codes "(a)") 0 ≡ codes "(a" ++ (27 ∷ codes "[1;34m)" ++ (27 ∷ codes "[0m"))
  pub opening-alone : checked (codes "(a") 2 ≡ None
  pub plain-opening : lit_at (codes "(a") 2 ≡ codes "(a"
  pub closing-alone : checked (codes ")") 0 ≡ None
  pub plain-closing : lit_at (codes ")") 0 ≡ codes ")"
