-- Bytes in portions, and what that gives of writes. Assumes nothing.
use Rattle.std.specs.Prelude.{◌≡◌, ℕ, ◌+◌, ◌<◌, ◌≤◌, min, ◌&&◌, List, length, take, drop, Ok, Err, ◌==◌, nat_lt}
use Rattle.std.proofs.Common.{sym, ap, ◌∙◌, arith, ⊎_elim, length-take, take-take, take-add}
use Rattle.std.proofs.lemmas.List.{take_all}
use Rattle.std.proofs.lemmas.Bool.{cases_lt, cond_both, cond-false, and_right, ne_eqb}
use Rattle.screen.proofs.Sequences.{feed-append}
use Rattle.screen.specs.Screen.{Screen, Geometry}
use Rattle.screen.specs.Bytes.{feed}
use Rattle.terminal.specs.Answers.{WriteAnswer, Worked, taken, answer_for}
use Rattle.terminal.specs.declared.terminal.WriteError.TheVariants.{Down}

module _ (d : Geometry) where
  -- n bytes, and k of the rest
  pub feed-more : (n k : ℕ) (bytes : List ℕ) (s : Screen) → feed d (take k (drop n bytes)) (feed d (take n bytes) s) ≡ feed d (take (n + k) bytes) s
  feed-more n k bytes s = sym (ap (λ l. feed d l s) (take-add n k bytes) ∙ feed-append d (take n bytes) (take k (drop n bytes)) s)

  -- a write of the first n bytes is one of them all
  pub worked-front : (n : ℕ) (bytes : List ℕ) (s t : Screen) (a : WriteAnswer) → Worked d (take n bytes) s a t → Worked d bytes s a t
  worked-front n bytes s t a h =
      let short : taken a ≤ min n (length bytes) = rw length-take at h.within in
      record { within = omega arith; drawn = h.drawn ∙ ap (λ l. feed d l s) (take-take (taken a) n bytes (omega arith)) }

-- as many bytes as there are, n at most
pub take_min : (n k : ℕ) (l : List ℕ) → k ≡ min (length l) n → take k l ≡ take n l
take_min n k l e =
    ⊎_elim
    (λ lt. ap (λ m. take m l) (let le : k ≡ n = omega arith in le))
    (λ le. let all : length l ≤ k = omega arith in take_all k l all ∙ sym (take_all n l le))
    (cases_lt n (length l))

-- of n bytes no more are taken than fit
pub taken-within : (n k : ℕ) (a : WriteAnswer) → k ≤ n → a ≡ answer_for n k → taken a ≤ n
taken-within n k a le e = rw e (cond_both (nat_lt 0 n && k == 0) (Err Down) (Ok k) (λ x. taken x ≤ n) (λ _. omega arith) (λ _. le))

-- some of n bytes fit
pub took-some : (n k : ℕ) → 0 < k → ◌≡◌ {A = WriteAnswer} (Ok k) (answer_for n k)
took-some n k some = sym (cond-false (nat_lt 0 n && k == 0) (Err Down) (Ok k) (and_right (nat_lt 0 n) (k == 0) (ne_eqb k 0 (λ e. omega arith))))
