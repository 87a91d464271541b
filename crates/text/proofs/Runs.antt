-- Runs of digits and semicolons, and looks for a style sequence. Assumes nothing.
use Rattle.std.proofs.Common.{◌≡◌, ℕ, zero, suc, ◌+◌, ◌-◌, ◌≤◌, Bool, true, false, not, cond, ltb, List, [], ◌∷◌, ◌++◌, length, get_or, take, drop, Some, None, Option, sym, refl, ap, ◌∙◌, subst, append_assoc, append-nil, arith, take-append-drop}
use Rattle.std.specs.List.{position, position_or_len}
use Rattle.std.proofs.lemmas.Bool.{and_from, ltb-false}
use Rattle.std.proofs.lemmas.List.{drop-drop, take_all, take_rest}
use Rattle.text.specs.Texts.{is_plain, plain, style}
use Rattle.text.proofs.Styling.{Stops, run-same}

-- how many digits and semicolons stand at the front
abbrev run : List ℕ → ℕ
run bs = position_or_len (λ b. not (is_plain b)) bs

-- they are digits and semicolons, and what follows is not
abbrev Run : List ℕ → ℕ → Type 0
Run bs n = (plain (take n bs) ≡ true) × Stops (drop n bs)

run-told : (bs : List ℕ) → Run bs (run bs)
run-told [] = (refl, tt)
run-told (b ∷ bs) = by (is_plain b) refl (run-told bs)
  where
    by : (t : Bool) → is_plain b ≡ t → Run bs (run bs) → Run (b ∷ bs) (cond (not (not t)) (1 + run bs) 0)
    by true e r = let u : 1 + run bs ≡ suc (run bs) = omega arith in rw u (and_from (is_plain b) _ e r.0, r.1)
    by false e r = (refl, e)

-- what a look for the end of a run tells
abbrev pub RunEnds : List ℕ → Option ℕ → Type 0
RunEnds bs None = plain bs ≡ true
RunEnds bs (Some n) = Run bs n

pub run-ends : (bs : List ℕ) → RunEnds bs (position (λ b. not (is_plain b)) bs)
run-ends bs = by (ltb (run bs) (length bs)) refl
  where
    by : (t : Bool) → ltb (run bs) (length bs) ≡ t → RunEnds bs (cond t (Some (run bs)) None)
    by true e = run-told bs
    by false e = subst (λ l. plain l ≡ true) (take_all (run bs) bs (ltb-false _ _ e)) (run-told bs).0

-- bytes that open as a style sequence does
pub opens : (bs : List ℕ) → 2 ≤ length bs → get_or bs 0 0 ≡ 27 → get_or bs 1 0 ≡ 91 → bs ≡ 27 ∷ 91 ∷ take (length bs - 2) (drop 2 bs)
opens [] l a b = absurd (omega arith)
opens (x ∷ []) l a b = absurd (omega arith)
opens (x ∷ y ∷ zs) l a b = λ i. a i ∷ b i ∷ sym (take_rest (x ∷ y ∷ zs) 2) i

-- the `m` at an index, as bytes, and where it is not
pub final : (qs : List ℕ) (n : ℕ) → get_or qs n 0 ≡ 109 → take 1 (drop n qs) ≡ 109 ∷ []
final [] n e = absurd (omega (arith, e))
final (q ∷ qs) zero e = λ i. e i ∷ []
final (q ∷ qs) (suc n) e = final qs n e

pub not-final : (qs : List ℕ) (n : ℕ) → (get_or qs n 0 ≡ 109 → ⊥) → take 1 (drop n qs) ≡ 109 ∷ [] → ⊥
not-final [] zero h e = omega (arith, ap length e)
not-final [] (suc n) h e = omega (arith, ap length e)
not-final (q ∷ qs) zero h e = h (ap (λ l. get_or l 0 0) e)
not-final (q ∷ qs) (suc n) h e = not-final qs n h e

-- bytes that go on as a style sequence does behind its opening, or do not
module _ (bs qs : List ℕ) (opening : bs ≡ 27 ∷ 91 ∷ qs) where
  behind : (ps rest : List ℕ) → bs ≡ style ps ++ rest → qs ≡ ps ++ (109 ∷ rest)
  behind ps rest e = ap (drop 2) (sym opening ∙ e) ∙ append_assoc ps (109 ∷ []) rest

  pub style-endless : plain qs ≡ true → (ps rest : List ℕ) → plain ps ≡ true → bs ≡ style ps ++ rest → ⊥
  style-endless p ps rest g e =
      let k = (run-same qs ps [] (109 ∷ rest) p g tt refl (append-nil qs ∙ behind ps rest e)).1 in
      omega (arith, ap length k)

  module _ (n : ℕ) (r : Run qs n) where
    pub style-other : (take 1 (drop n qs) ≡ 109 ∷ [] → ⊥) → (ps rest : List ℕ) → plain ps ≡ true → bs ≡ style ps ++ rest → ⊥
    style-other h ps rest g e =
        let k = (run-same (take n qs) ps (drop n qs) (109 ∷ rest) r.0 g r.1 refl (take-append-drop n qs ∙ behind ps rest e)).1 in
        h (ap (take 1) k)

    pub style-whole : take 1 (drop n qs) ≡ 109 ∷ [] → bs ≡ style (take n qs) ++ drop 1 (drop n qs)
    style-whole h =
        opening ∙ ap (λ l. 27 ∷ 91 ∷ l) (sym (take-append-drop n qs) ∙ ap (λ l. take n qs ++ l) (sym (take-append-drop 1 (drop n qs)) ∙ ap (λ l. l ++ drop 1 (drop n qs)) h) ∙ sym (append_assoc (take n qs) (109 ∷ []) (drop 1 (drop n qs))))

    -- what stands behind the `m`
    pub style-rest : take 1 (drop n qs) ≡ 109 ∷ [] → bs ≡ style (take n qs) ++ take (length qs - (n + 1)) (drop (n + 1) qs)
    style-rest h = style-whole h ∙ ap (λ l. style (take n qs) ++ l) (drop-drop 1 n qs ∙ sym (take_rest qs (n + 1)))
