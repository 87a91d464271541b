-- From a prompt's visible text and a caption to where they end.
use Rattle.std.proofs.Common.{◌≡◌, ℕ, ◌+◌, ◌-◌, ◌≤◌, true, List, ◌++◌, length, take, is_some, Some, None, Option, sym, refl, ap, ◌∙◌, subst, inl, inr, le_trans, arith, length-take}
use native.Mathlib.Nat.{sub-zero}
use Rattle.layout.specs.declared.layout.Position.{Position}
use Rattle.page.proofs.Spelt.{good-decodes, spells-decodes}
use Rattle.preview.specs.Previewing.{EndsAt, HeightFine, PromptFine, Refuses}
use Rattle.screen.proofs.Counting.{block-place}
use Rattle.screen.specs.Places.{place_of}
use Rattle.screen.specs.Screen.{Geometry, block, place_row}
use Rattle.std.proofs.lemmas.Option.{same_Some}
use Rattle.std.specs.Str.{chars}
use Rattle.terminal.specs.Windows.{geometry}
use Rattle.terminal.specs.declared.size.Size.{Size}
use Rattle.text.proofs.Spelling.{all-good-append}
use Rattle.text.proofs.Styling.{styled-good, styled-same}
use Rattle.text.specs.Checks.{Copied}
use Rattle.text.specs.Texts.{GoodText, Spells, Styled}
use Rattle.text.specs.declared.refusal.Refusal.TheVariants.{Long, Tall, Text}
use Rattle.text.specs.declared.refusal.Refusal.TheVariants as refusal

-- the buffer holds the prompt's characters
pub spelled : (prompt old new : List ℕ) (n : ℕ) (k : Copied prompt old new n) → Spells (take n new) k.characters
spelled prompt old new n k = (styled-good k.styled, sym k.written)

module _ (w : ℕ → ℕ) (narrow : (c : ℕ) → w c ≤ 2) (z : Size) (prompt old new caption : List ℕ) (n : ℕ) (k : Copied prompt old new n) (short : n ≤ 512) (room : length new ≡ 512) (cols : ℕ) (sized : cols ≡ z.cols) where
  -- the bound of the walk
  few : length caption ≤ 4096 → length (take n new) + length caption ≤ 65000
  few h = simp length-take (omega arith)

  ended : GoodText caption → length caption ≤ 4096 → (r : Option Position) → EndsAt w cols (take (n - 0) new) caption r → r ≡ Some (place_of (geometry w z) (block (geometry w z) (k.characters ++ chars caption)))
  ended g l r e =
      let f : EndsAt w z.cols (take n new) caption r = subst (λ m. EndsAt w z.cols (take m new) caption r) (sub-zero n) (subst (λ m. EndsAt w m (take (n - 0) new) caption r) sized e) in
      f k.characters (chars caption) (spelled prompt old new n k) (spells-decodes caption g) (few l)
      ∙ ap Some (block-place (geometry w z) (λ c. le_trans (narrow c) z.wide) (k.characters ++ chars caption) (all-good-append k.characters (chars caption) (styled-good k.styled) (good-decodes caption g)))

  pub end-some : GoodText caption → length caption ≤ 4096 → (r : Option Position) → EndsAt w cols (take (n - 0) new) caption r → is_some r ≡ true
  end-some g l r e = ap is_some (ended g l r e)

  pub end-place-is : GoodText caption → length caption ≤ 4096 → (r : Option Position) (p : Position) → EndsAt w cols (take (n - 0) new) caption r → r ≡ Some p → (cs : List ℕ) → Styled prompt cs → p ≡ place_of (geometry w z) (block (geometry w z) (cs ++ chars caption))
  end-place-is g l r p e is cs st =
      same_Some p (place_of (geometry w z) (block (geometry w z) (k.characters ++ chars caption))) (sym is ∙ ended g l r e)
      ∙ ap (λ (x : List ℕ). place_of (geometry w z) (block (geometry w z) (x ++ chars caption))) (styled-same k.styled st)

pub refuses-tall : (d : Geometry) (prompt caption cs : List ℕ) → PromptFine prompt → GoodText caption → length caption ≤ 4096 → Styled prompt cs → d.rows ≤ place_row d (block d (cs ++ chars caption)) → Refuses d prompt caption (Some refusal.Tall)
refuses-tall d prompt caption cs p g l st h = inr (p, inr (g, inr (l, inl ((λ f. let k = f cs st in omega arith), refl))))

pub refuses-none : (d : Geometry) (prompt caption : List ℕ) → PromptFine prompt → GoodText caption → length caption ≤ 4096 → HeightFine d prompt caption → Refuses d prompt caption None
refuses-none d prompt caption p g l h = inr (p, inr (g, inr (l, inr (h, refl))))
