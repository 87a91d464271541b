-- How a highlighter answers a text: with a styled text that shows the same, at the front of a place lent for it. Assumes nothing.
use Rattle.std.specs.Prelude.{◌≡◌, ℕ, ◌+◌, ◌<◌, ◌≤◌, List, length, take, drop, Some, None, Option}
use Rattle.text.specs.Texts.{Styled}

-- an answer to a text: it shows the text's characters, and is at most 256 bytes longer
pub record Shows (cs text lit : List ℕ) : Type 0 where
  pub visible : Styled lit cs
  pub short : length lit ≤ length text + 256

-- an allowed answer of n bytes stands at the front of the place, and the rest is as it was
pub record Written (allows : List ℕ → Type 0) (text before : List ℕ) (n : ℕ) (after : List ℕ) : Type 0 where
  pub room : length text + 256 ≤ length before
  pub within : n ≤ length before
  pub answer : allows (take n after)
  pub rest : drop n after ≡ drop n before

-- what a call answers: the length of its answer; or nothing, where the place is shorter than the text and 256 bytes, and then it is as it was
abbrev pub Answers : (List ℕ → Type 0) → List ℕ → List ℕ → Option ℕ → List ℕ → Type 0
Answers allows text before None after = (length before < length text + 256) × (after ≡ before)
Answers allows text before (Some n) after = Written allows text before n after
