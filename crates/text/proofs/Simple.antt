-- A text of simple characters is good. Assumes nothing.
use Rattle.std.proofs.Common.{◌≡◌, ℕ, ◌+◌, ◌<◌, ◌≤◌, false, List, [], ◌∷◌, ◌++◌, length, take, sym, refl, ap, subst, inl, inr, add-one, arith}
use Rattle.std.proofs.Math.Seq.{take-suc}
use Rattle.std.proofs.lemmas.Bool.Decides.{nat_tests}
use Rattle.std.proofs.lemmas.Str.{encode_ascii}
use lib.ListN.{get_or}
use Rattle.text.proofs.Spelling.{good-text-append}
use Rattle.std.proofs.Math.Utf8.{low_scalar}
use Rattle.text.specs.Characters.{Good, is_control}
use Rattle.text.specs.Simple.{Simple}
use Rattle.text.specs.Texts.{GoodText}

no-control : (b : ℕ) → 32 ≤ b → b < 127 → is_control b ≡ false
no-control b low high = grind (arith, nat_tests)

simple-low : (b : ℕ) → Simple b → b < 128
simple-low b (inl e) = omega arith
simple-low b (inr h) = let k = h.1 in omega arith

simple-good : (b : ℕ) → Simple b → Good b
simple-good b (inl e) = (low_scalar b (omega arith), inl e)
simple-good b (inr h) = let k = h.1 in (low_scalar b (omega arith), inr (no-control b h.0 h.1))

one-simple : (b : ℕ) → Simple b → GoodText (b ∷ [])
one-simple b s = (b ∷ [], ((simple-good b s, tt), ap (λ (x : List ℕ). x ++ []) (encode_ascii b (simple-low b s))))

pub simple-none : GoodText []
simple-none = ([], (tt, refl))

-- one more at the end
pub simple-more : (bs : List ℕ) (i : ℕ) → i < length bs → GoodText (take i bs) → Simple (get_or bs i 0) → GoodText (take (i + 1) bs)
simple-more bs i less good s =
    subst GoodText (ap (λ k. take k bs) (sym (add-one i))) (subst GoodText (sym (take-suc bs i 0 less)) (good-text-append (take i bs) (get_or bs i 0 ∷ []) good (one-simple (get_or bs i 0) s)))
