-- The character that stands at the front of some bytes. Assumes nothing.
use Rattle.std.specs.Prelude.{◌≡◌, ℕ, ◌+◌, ◌<◌, ◌≤◌, true, List, ◌++◌, length, drop, Some, None, Option, ◌≢◌}
use Rattle.std.proofs.Math.Utf8.{encode, scalar}
use Rattle.text.specs.declared.decode.Decoded.{Decoded}

-- no character stands at the front
abbrev pub NoCharacter : List ℕ → Type 0
NoCharacter bs = (c : ℕ) (rest : List ℕ) → scalar c ≡ true → bs ≢ encode c ++ rest

-- a character of so many bytes stands at the front
pub record Front (bs : List ℕ) (d : Decoded) : Type 0 where
  pub valid : scalar d.code ≡ true
  pub bytes : bs ≡ encode d.code ++ drop d.len bs
  pub len : d.len ≡ length (encode d.code)

-- what a look at the front answers
abbrev pub Decodes : List ℕ → Option Decoded → Type 0
Decodes bs None = NoCharacter bs
Decodes bs (Some d) = Front bs d

-- a character of one to four bytes at an index lies within so many bytes
abbrev pub Within : ℕ → ℕ → Option Decoded → Type 0
Within i n None = Unit {0}
Within i n (Some d) = (1 ≤ d.len) × (d.len ≤ 4) × (i + d.len ≤ n)

-- a byte that continues a character
abbrev pub Follows : ℕ → Type 0
Follows b = (128 ≤ b) × (b < 192)
