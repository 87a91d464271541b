-- Which characters a text may hold. A character is its Unicode number. Assumes nothing.
use Rattle.std.specs.Prelude.{◌≡◌, ℕ, Bool, true, false, ◌&&◌, ◌||◌, ◌⊎◌, List, [], ◌∷◌, nat_le, nat_lt}
use Rattle.std.proofs.Math.Utf8.{scalar}

-- below U+0020, or from U+007F to U+009F
abbrev pub is_control : ℕ → Bool
is_control c = nat_lt c 32 || (nat_le 127 c && nat_lt c 160)

-- a Unicode scalar value that is LF or no control
abbrev pub Good : ℕ → Type 0
Good c = (scalar c ≡ true) × ((c ≡ 10) ⊎ (is_control c ≡ false))

-- each of them
abbrev pub AllGood : List ℕ → Type 0
AllGood [] = Unit {0}
AllGood (c ∷ cs) = Good c × AllGood cs
