-- Steps through a number. Assumes nothing.
use Rattle.std.proofs.Common.{◌≡◌, ℕ, ◌+◌, ◌-◌, ◌*◌, ◌<◌, ◌≤◌, true, List, [], ◌∷◌, length, get_or, drop, Some, None, ◌∙◌, arith}
use Rattle.std.specs.Char.{is_ascii_digit}
use Rattle.std.proofs.lemmas.List.{at_drop_more}
use Rattle.std.proofs.lemmas.Bool.{cond-true, cond_both}
use Rattle.script.specs.Numbers.{spelled, number_of}

-- more digits say no less
pub spelled-up : (bs : List ℕ) (n m : ℕ) → spelled bs n ≡ Some m → n ≤ m
spelled-up [] n m e = let h : n ≡ m = cc in omega arith
spelled-up (b ∷ bs) n m e =
    cond_both (is_ascii_digit b) (spelled bs (n * 10 + (b - 48))) None (λ o. o ≡ Some m → n ≤ m)
    (λ _ f. let h = spelled-up bs (n * 10 + (b - 48)) m f in omega arith)
    (λ _ f. let z : ◌≡◌ {A = ℕ} 0 1 = cc in absurd (omega arith)) e

module _ (w : List ℕ) (i n : ℕ) (begun : number_of w ≡ spelled (drop i w) n) (lt : i < length w) where
  pub spelled-digit : (is_ascii_digit (get_or w i 0)) ≡ true → number_of w ≡ spelled (drop (i + 1) w) (n * 10 + (get_or w i 0 - 48))
  spelled-digit e = begun ∙ at_drop_more (λ l. spelled l n) w i 0 lt ∙ cond-true (is_ascii_digit (get_or w i 0)) _ _ e
