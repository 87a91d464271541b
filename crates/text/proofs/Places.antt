-- Places where whole characters end. Assumes nothing.
use Rattle.std.proofs.Common.{ℕ, ◌<◌, ◌≤◌, Bool, not, List, length, get_or, take, IsUtf8, Decides, ⊎_elim, arith}
use Rattle.std.proofs.lemmas.Bool.{cases_lt}
use Rattle.std.proofs.lemmas.Str.{IsCharBoundary-from_take, IsUtf8-take}
use Rattle.std.proofs.lemmas.Bool.Decides.{Decides-like, Decides-not}
use Rattle.std.specs.Str.{IsCharBoundary}
use Rattle.text.specs.Decoding.{Follows}

module _ (bs : List ℕ) (i : ℕ) where
  -- what a test for a place answers
  abbrev pub Answers : Bool → Type 0
  Answers r = record { place : Decides r (IsCharBoundary bs i); characters : IsUtf8 bs → Decides r ((i ≤ length bs) × IsUtf8 (take i bs)) }

  answers : (r : Bool) → Decides r (IsCharBoundary bs i) → Answers r
  answers r d = record {
    place = d;
    characters = λ u. ((λ e. let b = d.0 e in (b.0, IsUtf8-take bs i u b)), λ p. d.1 (IsCharBoundary-from_take bs i u p.0 p.1));
  }

  pub place-within : i < length bs → (r : Bool) → Decides r (Follows (get_or bs i 0)) → Answers (not r)
  place-within h r d = answers (not r) (Decides-like (not r)
      (λ n. (omega arith, λ _ l. ⊎_elim (λ k. absurd (n (l, k))) (λ k. k) (cases_lt (get_or bs i 0) 192)))
      (λ b f. omega (arith, f.1, b.1 h f.0))
      (Decides-not r d))
