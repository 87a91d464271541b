-- Drawings composed and written.
use Rattle.std.proofs.Common.{◌≡◌, ℕ, ◌≤◌, List, [], ◌++◌, length, Option, sym, ap, ◌∙◌, arith}
use Rattle.layout.specs.declared.block.Layout.{Layout}
use Rattle.render.proofs.Buffers.{push-length, push-push}
use Rattle.render.proofs.Moves.{old-length, place-length}
use Rattle.render.specs.Drawing.{AppendsTexts, Composes, Styles, old_rows, place_layout, styles_bytes}

-- the old block's rows come first
module _ (o : Option Layout) (start one : List ℕ) (none : start ≡ []) (old : one ≡ start ++ old_rows o) where
  old-first : one ≡ old_rows o
  old-first = old ∙ ap (λ x. x ++ old_rows o) none

  pub first-length : length one ≤ 1403
  first-length = omega (arith, ap length old-first, old-length o)

  -- the texts follow
  module _ (allows : Styles → Type 0) (two : List ℕ) (texts : AppendsTexts allows 6400 one two) where
    pub texts-length : length two ≤ 7803
    texts-length = omega (arith, first-length, push-length two one (styles_bytes texts.styles) texts.bytes, texts.short)

    -- and the cursor's place
    pub composes : (l : Layout) (end : List ℕ) (n : ℕ) → end ≡ two ++ place_layout l → length one ≡ n → Composes allows o l n end
    composes l end n place e = record {
      styles = texts.styles;
      styled = texts.styled;
      bytes = push-push one two end (styles_bytes texts.styles) (place_layout l) texts.bytes place ∙ ap (λ x. x ++ (styles_bytes texts.styles ++ place_layout l)) old-first;
      short = omega (arith, texts-length, push-length end two (place_layout l) place, place-length l);
      erased = sym e ∙ ap length old-first;
    }
