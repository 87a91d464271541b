-- What the checks of texts answer. Assumes nothing.
use Rattle.std.specs.Prelude.{◌∷◌, [], Ok, Err, codes}
use Rattle.text.specs.Checks.{ChecksWithin, Copied, GivesVisible}
use Rattle.text.specs.declared.refusal.Refusal.TheVariants.{Long, Text}

-- two BELs within one byte are refused as text and not as too long, two letters as too long, one letter is fine; where one letter is copied to the front of two bytes, the second byte stays, and where a text is refused, each byte
pub record WorkedTexts : Type 0 where
  pub text-first : ChecksWithin (7 ∷ 7 ∷ []) 1 (Err Text)
  pub long-not : ChecksWithin (7 ∷ 7 ∷ []) 1 (Err Long) → ⊥
  pub long-second : ChecksWithin (codes "ab") 1 (Err Long)
  pub fine : ChecksWithin (codes "a") 1 (Ok tt)
  pub fine-not : ChecksWithin (codes "ab") 1 (Ok tt) → ⊥
  pub rest-stays : Copied (codes "a") (1 ∷ 2 ∷ []) (97 ∷ 2 ∷ []) 1
  pub rest-not : Copied (codes "a") (1 ∷ 2 ∷ []) (97 ∷ 3 ∷ []) 1 → ⊥
  pub refused-not : GivesVisible (27 ∷ []) (2 ∷ []) (3 ∷ []) (Err Text) → ⊥
