-- The first line of a text, and the lines behind it. Assumes nothing.
use Rattle.std.proofs.Common.{◌≡◌, ℕ, suc, ◌+◌, ◌<◌, ◌≤◌, Bool, true, false, not, cond, eqb, List, [], ◌∷◌, length, take, drop, Some, None, Option, ltb, refl, arith}
use Rattle.std.specs.List.{onto_first, position, position_or_len}
use Rattle.std.proofs.lemmas.Bool.{ltb-true, ltb-false}
use Rattle.text.specs.Lines.{lines_of}

-- how many bytes stand before the first LF
abbrev before_lf : List ℕ → ℕ
before_lf bs = position_or_len (λ b. eqb b 10) bs

-- the first line ends at the first LF
abbrev FirstEnds : List ℕ → Type 0
FirstEnds bs = before_lf bs < length bs → lines_of bs ≡ take (before_lf bs) bs ∷ lines_of (drop (before_lf bs + 1) bs)

pub lines-first : (bs : List ℕ) → FirstEnds bs
lines-first [] h = absurd (omega arith)
lines-first (b ∷ bs) h = by (eqb b 10) (lines-first bs) h
  where
    by : (t : Bool) → FirstEnds bs → cond (not t) (1 + before_lf bs) 0 < length (b ∷ bs)
        → cond t ([] ∷ lines_of bs) (onto_first b (lines_of bs)) ≡ take (cond (not t) (1 + before_lf bs) 0) (b ∷ bs) ∷ lines_of (drop (cond (not t) (1 + before_lf bs) 0 + 1) (b ∷ bs))
    by true f h = refl
    by false f h =
        let k = before_lf bs in
        let t : 1 + k + 1 ≡ suc (k + 1) = omega arith in
        let u : 1 + k ≡ suc k = omega arith in
        let e = f (omega arith) in
        rw (e, t, u) refl

-- where there is no LF, all is one line
pub lines-last : (bs : List ℕ) → 0 < length bs → length bs ≤ before_lf bs → lines_of bs ≡ bs ∷ []
lines-last [] l h = absurd (omega arith)
lines-last (b ∷ []) l h = by (eqb b 10) h
  where
    by : (t : Bool) → length (b ∷ []) ≤ cond (not t) 1 0 → cond t ([] ∷ []) ((b ∷ []) ∷ []) ≡ (b ∷ []) ∷ []
    by true h = absurd (omega arith)
    by false h = refl
lines-last (b ∷ d ∷ bs) l h = by (eqb b 10) (lines-last (d ∷ bs) (omega arith)) h
  where
    by : (t : Bool) → (length (d ∷ bs) ≤ before_lf (d ∷ bs) → lines_of (d ∷ bs) ≡ (d ∷ bs) ∷ []) → length (b ∷ d ∷ bs) ≤ cond (not t) (1 + before_lf (d ∷ bs)) 0
        → cond t ([] ∷ lines_of (d ∷ bs)) (onto_first b (lines_of (d ∷ bs))) ≡ (b ∷ d ∷ bs) ∷ []
    by true f h = absurd (omega arith)
    by false f h = let e = f (omega arith) in rw e refl

-- what a look for the first LF tells of the lines
abbrev pub Told : List ℕ → Option ℕ → Type 0
Told bs None = lines_of bs ≡ bs ∷ []
Told bs (Some n) = lines_of bs ≡ take n bs ∷ lines_of (drop (n + 1) bs)

pub lines-told : (bs : List ℕ) → 0 < length bs → Told bs (position (λ b. eqb b 10) bs)
lines-told bs l = by (ltb (before_lf bs) (length bs)) refl
  where
    by : (t : Bool) → ltb (before_lf bs) (length bs) ≡ t → Told bs (cond t (Some (before_lf bs)) None)
    by true e = lines-first bs (ltb-true _ _ e)
    by false e = lines-last bs l (ltb-false _ _ e)
