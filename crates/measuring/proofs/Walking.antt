-- A walk from character to character. Assumes nothing.
use Rattle.std.proofs.Common.{◌≡◌, ℕ, ◌+◌, ◌<◌, ◌≤◌, eqb, ltb, List, ◌++◌, length, Some, None, IsUtf8, sym, ap, ◌∙◌, subst, le_refl, arith, length-append}
use lib.Utf8.{encode}
use Rattle.layout.specs.Drawing.{step_place, walk_place}
use Rattle.layout.specs.declared.layout.Position.{Position}
use Rattle.measuring.specs.Measured.{Walks}
use Rattle.std.proofs.StrCases.{chars_of_empty}
use Rattle.std.proofs.lemmas.Bool.{cond_both}
use Rattle.std.proofs.lemmas.Str.{IsUtf8-past_char, chars_past_char, length-encode, len_utf8_bounds}
use Rattle.std.specs.Str.{chars}
use Rattle.text.proofs.Spelling.{good-text-utf8}

-- a character takes a byte at least
pub some-bytes : (c : ℕ) → 0 < length (encode c)
some-bytes c = let k = len_utf8_bounds c in subst (λ n. 0 < n) (sym (length-encode c)) k.0

-- and goes down a row at most
pub step-row : (w : ℕ → ℕ) (cols c : ℕ) (q : Position) → (step_place cols w c q).row ≤ q.row + 1
step-row w cols c q =
    cond_both (eqb c 10) _ _ (λ (x : Position). x.row ≤ q.row + 1) (λ _. omega arith)
    (λ _. cond_both (ltb cols (q.col + w c)) _ _ (λ (x : Position). x.row ≤ q.row + 1) (λ _. omega arith) (λ _. omega arith))

module _ (w : ℕ → ℕ) (cols : ℕ) (p : Position) (text : List ℕ) where
  -- what is left of the text leads from the place that is reached to where the text ends
  pub record Walked (rest : List ℕ) (q : Position) : Type 0 where
    pub utf8 : IsUtf8 rest
    pub leads : walk_place cols w (chars rest) q ≡ walk_place cols w (chars text) p
    pub row : q.row + length rest ≤ p.row + length text

  pub walked_none : (rest : List ℕ) → rest ≡ text → IsUtf8 text → Walked rest p
  walked_none rest e u = subst (λ (x : List ℕ). Walked x p) (sym e) (record { utf8 = u; leads = λ i. walk_place cols w (chars text) p; row = le_refl _ })

  module _ (rest left : List ℕ) (c : ℕ) (q : Position) (t : Walked rest q) (e : rest ≡ encode c ++ left) where
    sum : length rest ≡ length (encode c) + length left
    sum = ap length e ∙ length-append (encode c) left

    pub walked_more : Walked left (step_place cols w c q)
    walked_more = record {
      utf8 = IsUtf8-past_char rest left c t.utf8 e;
      leads = sym (ap (λ (x : List ℕ). walk_place cols w x q) (chars_past_char rest left c t.utf8 e)) ∙ t.leads;
      row = let r = t.row in let s = sum in let b = some-bytes c in let d = step-row w cols c q in omega arith;
    }

    pub walked_room : p.row + length text ≤ 65535 → q.row < 65535
    walked_room low = let r = t.row in let s = sum in let b = some-bytes c in omega arith

  pub walked_all : (rest : List ℕ) (q : Position) → Walked rest q → length rest ≡ 0 → Walks w cols p text (Some q)
  walked_all rest q t e = record {
    reached = λ wide good low. ap Some (sym (ap (λ (x : List ℕ). walk_place cols w x q) (chars_of_empty rest e)) ∙ t.leads);
    rows = let r = t.row in omega arith;
  }

  pub walked_not : (IsUtf8 text → ⊥) → Walks w cols p text None
  walked_not bad = record { reached = λ wide good low. absurd (bad (good-text-utf8 text good)); rows = tt }
