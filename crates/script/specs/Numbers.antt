-- What a number means. Assumes nothing.
use Rattle.std.specs.Prelude.{◌≡◌, ℕ, ◌+◌, ◌-◌, ◌*◌, ◌^◌, ◌≤◌, cond, List, [], ◌∷◌, Some, None, Ok, Err, Option, Result}
use Rattle.std.specs.Char.{is_ascii_digit}
use Rattle.script.specs.declared.number.NumberFault.{NumberFault}
use Rattle.script.specs.declared.number.NumberFault.TheVariants.{Digits, Large}

-- digits behind those that say n: the number they all say, or none where a byte is no digit
abbrev pub spelled : List ℕ → ℕ → Option ℕ
spelled [] n = Some n
spelled (b ∷ bs) n = cond (is_ascii_digit b) (spelled bs (n * 10 + (b - 48))) None

-- the number that a word says: one digit at least
abbrev pub number_of : List ℕ → Option ℕ
number_of [] = None
number_of (b ∷ bs) = spelled (b ∷ bs) 0

-- what a call says of a word
abbrev pub Numbers : List ℕ → Result ℕ NumberFault → Type 0
Numbers word (Ok n) = number_of word ≡ Some n
Numbers word (Err Digits) = number_of word ≡ None
Numbers word (Err Large) = (n : ℕ) → number_of word ≡ Some n → 2 ^ 64 ≤ n
