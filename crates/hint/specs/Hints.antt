-- Hints, and how a hinter answers one: at the front of a place lent for it. Assumes nothing.
use Rattle.std.specs.Prelude.{◌≡◌, ℕ, ◌≤◌, List, length, take, drop, Some, None, Option}
use Rattle.text.specs.Texts.{GoodText}

-- a hint is a good text of 1 to 1,024 bytes
pub record GoodHint (hint : List ℕ) : Type 0 where
  pub text : GoodText hint
  pub some : 1 ≤ length hint
  pub short : length hint ≤ 1024

-- the hint stands in n bytes at the front of the place, and the rest is as it was
pub record Written (hint : Option (List ℕ)) (before : List ℕ) (n : ℕ) (after : List ℕ) : Type 0 where
  pub answer : hint ≡ Some (take n after)
  pub text : GoodText (take n after)
  pub some : 1 ≤ n
  pub short : n ≤ 1024
  pub rest : drop n after ≡ drop n before

-- what a call answers: the hint's length; or that there is no hint, and then the place is as it was
abbrev pub Hinted : Option (List ℕ) → List ℕ → Option ℕ → List ℕ → Type 0
Hinted hint before None after = (hint ≡ None) × (after ≡ before)
Hinted hint before (Some n) after = Written hint before n after
