-- What the answer of a rule tells of its needs.
use Rattle.std.proofs.Common.{◌≡◌, ℕ, Some, None, Option, inl, inr, arith}
use Rattle.page.specs.Rules.{Needs, NothingElse}
use Rattle.text.specs.declared.refusal.Refusal.{Refusal}

none-some : (e : Refusal) → ◌≡◌ {A = Option Refusal} None (Some e) → ⊥
none-some e h = let z : ◌≡◌ {A = ℕ} 0 1 = cc in omega arith

-- where nothing else is needed, nothing refuses
pub nothing-some : (e : Refusal) → NothingElse (Some e) → ⊥
nothing-some e h = let z : ◌≡◌ {A = ℕ} 0 1 = cc in omega arith

-- the same need before another rest; a rest R stands for its value at the answer
pub needs-map : {Q : Type 0} {e : Refusal} {R S : Type 0} {r : Option Refusal} → (R → S) → Needs Q e (λ _. R) r → Needs Q e (λ _. S) r
needs-map f (inl x) = inl x
needs-map f (inr x) = inr (x.0, f x.1)

-- where nothing refuses, the need holds, and the rest refuses nothing
pub needs-none : {Q : Type 0} {e : Refusal} {R : Type 0} → Needs Q e (λ _. R) None → Q × R
needs-none {Q} {e} {R} (inl x) = absurd (none-some e x.1)
needs-none {Q} {e} {R} (inr x) = x

-- the last need
pub needs-holds : {Q : Type 0} {e : Refusal} → Needs Q e NothingElse None → Q
needs-holds h = (needs-none h).0

-- a need and its rest do not both accept and refuse, unless the rest does
pub needs-once : {Q : Type 0} {e d : Refusal} {R S : Type 0} → (R → S → ⊥) → Needs Q e (λ _. R) None → Needs Q e (λ _. S) (Some d) → ⊥
needs-once {Q} {e} {d} {R} {S} once (inl x) k = none-some e x.1
needs-once {Q} {e} {d} {R} {S} once (inr x) (inl y) = y.0 x.0
needs-once {Q} {e} {d} {R} {S} once (inr x) (inr y) = once x.1 y.1
