-- What holds so far, and at the next number. Assumes nothing.
use Rattle.std.proofs.Common.{◌≡◌, ℕ, ◌+◌, ◌<◌, ◌≤◌, ◌⊎◌, ap, ◌∙◌, inl, inr, arith}
use Rattle.std.proofs.lemmas.Bool.{cases_lt}

pub up-to : {A : Type 0} (f : ℕ → A) (x : A) (n : ℕ) → ((j : ℕ) → j < n → f j ≡ x) → f n ≡ x → (j : ℕ) → j < n + 1 → f j ≡ x
up-to f x n before here j h = by (cases_lt j n)
  where
    by : (j < n) ⊎ (n ≤ j) → f j ≡ x
    by (inl k) = before j k
    by (inr k) = let e : j ≡ n = omega arith in ap f e ∙ here

pub down-to : {A : Type 0} (f : ℕ → ℕ → A) (x : A) (cols n end : ℕ) → ((i : ℕ) → n < i → i < end → (j : ℕ) → j < cols → f i j ≡ x) → ((j : ℕ) → j < cols → f n j ≡ x) → (i : ℕ) → n ≤ i → i < end → (j : ℕ) → j < cols → f i j ≡ x
down-to f x cols n end behind here i h k j l = by (cases_lt n i)
  where
    by : (n < i) ⊎ (i ≤ n) → f i j ≡ x
    by (inl m) = behind i m k j l
    by (inr m) = let e : i ≡ n = omega arith in ap (λ r. f r j) e ∙ here j l

-- no number lies between
pub none-between : {A : Type 0} {i n : ℕ} → n ≤ i → i < n → A
none-between h k = absurd (omega arith)
