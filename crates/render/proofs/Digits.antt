-- A number in decimal, digit by digit.
use Rattle.std.proofs.Common.{◌≡◌, ℕ, ◌+◌, ◌/◌, ◌%◌, ◌^◌, ◌<◌, ◌≤◌, List, [], ◌∷◌, ◌++◌, length, decimal, sym, ap, ◌∙◌, append_assoc, mod-eq_of_lt, length-append}
use Rattle.std.proofs.lemmas.Fmt.{decimal_digit, decimal_step}

-- the digits before the last one, of a number with more than one
module _ (n : ℕ) (big : 10 ≤ n) (small : n < 2 ^ 64) where
  pub front_length : length (decimal n) ≡ length (decimal (n / 10)) + 1
  front_length = ap length (decimal_step n big small) ∙ length-append (decimal (n / 10)) ((48 + n % 10) ∷ [])

  pub last-behind : (before : List ℕ) → (before ++ decimal (n / 10)) ++ ((48 + n % 10) ∷ []) ≡ before ++ decimal n
  last-behind before = append_assoc before (decimal (n / 10)) ((48 + n % 10) ∷ []) ∙ ap (λ ds. before ++ ds) (sym (decimal_step n big small))

-- a number with one digit
pub only-digit : (n : ℕ) → n < 10 → (before : List ℕ) → before ++ ((48 + n % 10) ∷ []) ≡ before ++ decimal n
only-digit n h before = ap (λ ds. before ++ ds) (ap (λ d. (48 + d) ∷ []) (mod-eq_of_lt h) ∙ sym (decimal_digit n h))
