-- Where a text ends that is drawn from a place, once or so many times. Assumes nothing.
use Rattle.std.proofs.Common.{◌≡◌, ℕ, zero, suc, ◌+◌, ◌*◌, ◌<◌, ◌≤◌, List, ◌++◌, length, IfSome, Some, None, Option, sym, refl, ap, ◌∙◌, subst, append_assoc, append-nil, le_trans, mul-le-mul_right, suc-mul, add-one, arith}
use Rattle.layout.proofs.GoodTexts.{walk_place-append, went_on}
use Rattle.layout.specs.Drawing.{walk_place}
use Rattle.layout.specs.Measuring.{Advances, starting}
use Rattle.layout.specs.declared.layout.Position.{Position}
use Rattle.layout.specs.declared.measure.Walk.{Walk}
use Rattle.measuring.specs.Measured.{Repeats, Walks}
use Rattle.page.proofs.Spelt.{good-times, spells-decodes}
use Rattle.page.specs.Acts.{times}
use Rattle.std.proofs.lemmas.Str.{chars-append}
use Rattle.std.specs.Str.{chars}
use Rattle.text.proofs.Spelling.{good-text-utf8}
use Rattle.text.specs.Texts.{GoodText}

pub some_same : {A : Type 0} {x y : A} → Some x ≡ Some y → x ≡ y
some_same e = cc

pub some-none : {A : Type 0} {x : A} → None ≡ Some x → ⊥
some-none e = let z : ◌≡◌ {A = ℕ} 0 1 = cc in omega arith

-- once more at the end
times_more : (n : ℕ) (t : List ℕ) → times (suc n) t ≡ times n t ++ t
times_more zero t = append-nil t
times_more (suc n) t = ap (λ (x : List ℕ). t ++ x) (times_more n t) ∙ sym (append_assoc t (times n t) t)

decodes-more : (n : ℕ) (t : List ℕ) → GoodText t → chars (times (suc n) t) ≡ chars (times n t) ++ chars t
decodes-more n t g = ap chars (times_more n t) ∙ chars-append (times n t) t (good-text-utf8 (times n t) (good-times n t g))

module _ (w : ℕ → ℕ) (narrow : (c : ℕ) → w c ≤ 2) (cols : ℕ) (p : Position) (text : List ℕ) where
  -- the walk over a text
  pub walks-to : (s t : Walk) (r : Option Walk) → s ≡ starting p → Advances w text cols 8 s r → r ≡ Some t → Walks w cols p text (Some t.position)
  walks-to s t r e a it = record {
    reached = λ wide good low.
        ap (λ (x : Walk). Some x.position) (some_same (sym it ∙ (went_on w cols (λ c. le_trans (narrow c) wide) p s text (chars text) r e (spells-decodes text good) low a).is));
    rows =
        subst (λ (x : Walk). t.position.row ≤ x.position.row + length text) e
        (subst (λ (o : Option Walk). IfSome o (λ x. x.position.row ≤ s.position.row + length text)) it a.rows);
  }

  -- which does not fail
  pub walks-none : (s : Walk) (r : Option Walk) → s ≡ starting p → Advances w text cols 8 s r → r ≡ None → Walks w cols p text None
  walks-none s r e a none = record {
    reached = λ wide good low.
        absurd (some-none (sym none ∙ (went_on w cols (λ c. le_trans (narrow c) wide) p s text (chars text) r e (spells-decodes text good) low a).is));
    rows = tt;
  }

  -- no time at all
  pub repeats-none : Repeats w cols p text 0 (Some p)
  unfolding chars
  repeats-none = record { reached = λ wide good low. refl; rows = omega arith }

  -- once more
  pub repeats-more : (i : ℕ) (q s : Position) → Repeats w cols p text i (Some q) → Walks w cols q text (Some s) → Repeats w cols p text (i + 1) (Some s)
  repeats-more i q s a b =
      let rows = a.rows in
      let more = b.rows in
      let prod : (i + 1) * length text ≡ i * length text + length text = ap (λ k. k * length text) (add-one i) ∙ suc-mul i (length text) in
      record {
        reached = λ wide good low.
            let at : q ≡ walk_place cols w (chars (times i text)) p = some_same (a.reached wide good (omega arith)) in
            b.reached wide good (omega arith)
            ∙ ap (λ (x : Position). Some (walk_place cols w (chars text) x)) at
            ∙ ap Some (sym (walk_place-append w cols (chars (times i text)) (chars text) p))
            ∙ ap (λ (x : List ℕ). Some (walk_place cols w x p)) (sym (decodes-more i text good))
            ∙ ap (λ k. Some (walk_place cols w (chars (times k text)) p)) (sym (add-one i));
        rows = omega arith;
      }

  -- no time fails
  pub repeats-stuck : (i n : ℕ) (q : Position) → i < n → Repeats w cols p text i (Some q) → Walks w cols q text None → Repeats w cols p text n None
  repeats-stuck i n q less a b = record {
    reached = λ wide good low.
        let rows = a.rows in
        let prod : suc i * length text ≤ n * length text = mul-le-mul_right (length text) less in
        let one = suc-mul i (length text) in
        absurd (some-none (b.reached wide good (omega arith)));
    rows = tt;
  }
