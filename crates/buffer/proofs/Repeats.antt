-- A text so many times.
use Rattle.std.proofs.Common.{◌≡◌, ℕ, zero, suc, ◌+◌, ◌*◌, ◌<◌, ◌≤◌, List, ◌++◌, length, sym, ap, ◌∙◌, append_assoc, append-nil, add-one, arith, length-append}
use Rattle.std.proofs.Math.Nat.{mul-le-mul_left}
use Rattle.std.specs.List.{repeat}

pub length-repeat : (n : ℕ) (t : List ℕ) → length (repeat n t) ≡ n * length t
length-repeat zero t = omega arith
length-repeat (suc n) t = omega (arith, length-append t (repeat n t), length-repeat n t)

-- one more at the end
pub repeat-push : (n : ℕ) (t : List ℕ) → repeat (suc n) t ≡ repeat n t ++ t
repeat-push zero t = append-nil t
repeat-push (suc n) t = ap (λ x. t ++ x) (repeat-push n t) ∙ sym (append_assoc t (repeat n t) t)

-- the text behind others
module _ (old t : List ℕ) where
  pub filled-length : (n : ℕ) → length (old ++ repeat n t) ≡ length old + length t * n
  filled-length n = omega (arith, length-append old (repeat n t), length-repeat n t)

  -- once more
  pub filled-more : (i : ℕ) → (old ++ repeat i t) ++ t ≡ old ++ repeat (i + 1) t
  filled-more i = append_assoc old (repeat i t) t ∙ ap (λ x. old ++ x) (sym (repeat-push i t) ∙ ap (λ n. repeat n t) (sym (add-one i)))

  pub filled-below : (i n : ℕ) → i < n → length ((old ++ repeat i t) ++ t) ≤ length old + length t * n
  filled-below i n h = omega (arith, ap length (filled-more i), filled-length (i + 1), mul-le-mul_left {m = i + 1} {n = n} (length t) (omega arith))
