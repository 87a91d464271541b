-- The examples about the checks of texts.
use lib.Utf8.{encode}
use Rattle.std.proofs.Common.{◌≡◌, ℕ, List, [], ◌∷◌, Err, ap, refl, inl, inr, arith}
use borrow.Author.Tests.{clash}
use Rattle.std.specs.Prelude.{codes}
use Rattle.std.specs.Str.{chars}
use Rattle.text.proofs.Testing.{good-bytes, good-text}
use Rattle.text.specs.Checks.{ChecksWithin}
use Rattle.text.specs.Refusals.{refusal_number}
use Rattle.text.specs.Tests.{good_bytes}
use Rattle.text.specs.Texts.{GoodText, ends, shows}
use Rattle.text.specs.declared.refusal.Refusal.TheVariants.{Long, Text}
use Rattle.worked.specs.Texts.{WorkedTexts}

bells-not : GoodText (7 ∷ 7 ∷ []) → ⊥
unfolding good_bytes chars encode
bells-not g = clash (good-bytes (7 ∷ 7 ∷ []) g)

letters-good : GoodText (codes "ab")
unfolding good_bytes chars encode
letters-good = good-text (codes "ab") refl

letter-good : GoodText (codes "a")
unfolding good_bytes chars encode
letter-good = good-text (codes "a") refl

first : List ℕ → ℕ
first [] = 0
first (x ∷ xs) = x

number-not : Long ≡ Text → ⊥
number-not e = let n = ap refusal_number e in omega arith

three-not : ◌≡◌ {A = List ℕ} (3 ∷ []) (2 ∷ []) → ⊥
unfolding first
three-not e = let n = ap first e in omega arith

pub worked-texts : WorkedTexts
unfolding encode
worked-texts = record {
  text-first = inl (refl, bells-not);
  long-not = long-not;
  long-second = inr (refl, letters-good, omega arith);
  fine = (letter-good, omega arith);
  fine-not = λ h. let le = h.1 in omega arith;
  rest-stays = record { characters = 97 ∷ []; styled = shows 97 (refl, inr refl) ends; count = refl; written = refl; kept = refl };
  rest-not = λ c. three-not c.kept;
  refused-not = λ h. three-not h.0;
}
  where
    long-not : ChecksWithin (7 ∷ 7 ∷ []) 1 (Err Long) → ⊥
    long-not (inl x) = number-not x.0
    long-not (inr x) = bells-not x.1
