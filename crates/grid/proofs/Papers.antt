-- A cell of the memory as a cell of the paper, and changes of one row. Assumes nothing.
use Rattle.std.proofs.Common.{◌≡◌, ℕ, ◌+◌, ◌-◌, ◌*◌, ◌<◌, ◌≤◌, Bool, true, false, cond, ◌&&◌, eqb, ltb, leb, List, length, get_or, drop, replicate, length-drop, sym, refl, ap, ◌∙◌, ⊎_elim, le_refl, arith}
use Rattle.std.proofs.lemmas.List.{get_or_past, length-replicate}
use Rattle.std.proofs.lemmas.Bool.{cond-true, cond-false, cond_both, ltb-true, ltb-false, eqb-true, eqb-false, cases_lt}
use Rattle.std.proofs.lemmas.Nat.{mul-le, mul-add-lt}
use Rattle.std.proofs.lemmas.Bool.Decides.{nat_tests}
use Rattle.std.proofs.Math.Seq.{length-take-le}
use borrow.Rule.Slice.PartMut.{mid_of, put_mid}
use Rattle.screen.specs.Screen.{Row, blank_row, blank_paper, on_row, rows_from}
use Rattle.screen.specs.declared.cells.Cell.{Cell}
use Rattle.screen.specs.declared.cells.Cell.TheVariants.{Blank}
use Rattle.grid.specs.Meaning.{row_of, paper_of}
use Rattle.grid.proofs.Parts.{put-below, put-in, put-above, mid-at, alike}

-- a row's cells are the cells of one row of the paper
pub row-here : (w r a k : ℕ) (xs : List Cell) → a ≡ r * w → k ≡ w → length (mid_of a k xs) ≡ k → row_of (mid_of a k xs) ≡ paper_of w xs r
row-here w r a k xs ea ek long = λ m j. at j (ltb j w) refl m
  where
    at : (j : ℕ) (t : Bool) → ltb j w ≡ t → get_or (mid_of a k xs) j Blank ≡ cond t (get_or xs (r * w + j) Blank) Blank
    at j true e = let near = ltb-true j w e in mid-at a k xs xs Blank j (omega arith) ∙ ap (λ n. get_or xs (n + j) Blank) ea
    at j false e = let far = ltb-false j w e in get_or_past (mid_of a k xs) j Blank (omega arith)

module _ (w r a k : ℕ) (xs ys : List Cell) (ea : a ≡ r * w) (ek : k ≡ w) (within : a + k ≤ length xs) (long : length ys ≡ k) where
  -- what was written stands in its row
  in_row : (j : ℕ) (t : Bool) → ltb j w ≡ t → cond t (get_or (put_mid a k xs ys) (r * w + j) Blank) Blank ≡ row_of ys j
  in_row j true e =
      let near = ltb-true j w e in
      ap (λ n. get_or (put_mid a k xs ys) (n + j) Blank) (sym ea) ∙ put-in a k xs ys Blank j (omega arith) (omega arith)
  in_row j false e = let far = ltb-false j w e in sym (get_or_past ys j Blank (omega arith))

  -- the other rows are as they were
  off_row : (i j : ℕ) → j < w → (i ≡ r → ⊥) → get_or (put_mid a k xs ys) (i * w + j) Blank ≡ get_or xs (i * w + j) Blank
  off_row i j near other =
      ⊎_elim
      (λ up. put-below a k xs ys Blank (i * w + j) (omega (arith, mul-add-lt i w j r up near)) (omega arith))
      (λ le. let down : r + 1 ≤ i = omega arith in put-above a k xs ys Blank (i * w + j) (omega (arith, mul-le (r + 1) w i w down (le_refl w))) (omega arith) long)
      (cases_lt i r)

  -- one row's cells written are one row of the paper changed
  pub paper-row : (f : Row → Row) → row_of ys ≡ f (row_of (mid_of a k xs)) → paper_of w (put_mid a k xs ys) ≡ on_row r f (paper_of w xs)
  unfolding on_row
  paper-row f e = λ m i j. at i j (eqb i r) (ltb j w) refl refl m
    where
      here : row_of ys ≡ f (paper_of w xs r)
      here = e ∙ ap f (row-here w r a k xs ea ek (length-take-le k (drop a xs) (omega (arith, length-drop a xs))))

      at : (i j : ℕ) (b t : Bool) → eqb i r ≡ b → ltb j w ≡ t → cond t (get_or (put_mid a k xs ys) (i * w + j) Blank) Blank ≡ cond b (f (paper_of w xs i)) (paper_of w xs i) j
      at i j true t same e = let is = eqb-true i r same in ap (λ n. cond t (get_or (put_mid a k xs ys) (n * w + j) Blank) Blank) is ∙ in_row j t e ∙ ap (λ g. g j) here ∙ sym (ap (λ n. f (paper_of w xs n) j) is)
      at i j false true other e = off_row i j (ltb-true j w e) (eqb-false i r other) ∙ sym (cond-true _ _ _ e)
      at i j false false other e = sym (cond-false _ _ _ e)

-- the rows from a up to b
rows-before : (a b i : ℕ) → i < a → (leb a i && leb i (b - 1)) ≡ false
rows-before a b i lt = grind (arith, nat_tests)

rows-in : (a b i : ℕ) → a ≤ i → i < b → (leb a i && leb i (b - 1)) ≡ true
rows-in a b i le lt = grind (arith, nat_tests)

rows-behind : (a b i : ℕ) → 1 ≤ b → b ≤ i → (leb a i && leb i (b - 1)) ≡ false
rows-behind a b i some le = grind (arith, nat_tests)

module _ (w a b p k : ℕ) (xs ys : List Cell) (ep : p ≡ a * w) (ek : p + k ≡ b * w) (within : p + k ≤ length xs) (some : 1 ≤ b) (blank : ys ≡ replicate k Blank) where
  long : length ys ≡ k
  long = ap length blank ∙ length-replicate k Blank

  -- a cell after blank ones were written
  written : (i j : ℕ) → j < w → get_or (put_mid p k xs ys) (i * w + j) Blank ≡ cond (leb a i && leb i (b - 1)) Blank (get_or xs (i * w + j) Blank)
  written i j near =
      ⊎_elim
      (λ up. put-below p k xs ys Blank (i * w + j) (omega (arith, mul-add-lt i w j a up near)) (omega arith) ∙ sym (cond-false _ _ _ (rows-before a b i up)))
      (λ le. ⊎_elim
      (λ lt.
      let n = i * w + j - p in
      let here : i * w + j ≡ p + n = omega (arith, mul-le a w i w le (le_refl w)) in
      ap (λ m. get_or (put_mid p k xs ys) m Blank) here
      ∙ put-in p k xs ys Blank n (omega (arith, long, mul-add-lt i w j b lt near)) (omega arith)
      ∙ ap (λ l. get_or l n Blank) blank ∙ alike k n Blank ∙ sym (cond-true _ _ _ (rows-in a b i le lt)))
      (λ down. put-above p k xs ys Blank (i * w + j) (omega (arith, mul-le b w i w down (le_refl w))) (omega arith) long ∙ sym (cond-false _ _ _ (rows-behind a b i some down)))
      (cases_lt i b))
      (cases_lt i a)

  -- rows of blank cells written are rows of the paper blanked
  pub paper-rows : paper_of w (put_mid p k xs ys) ≡ rows_from a (b - 1) (paper_of w xs)
  unfolding rows_from
  paper-rows = λ m i j. at i j (leb a i && leb i (b - 1)) (ltb j w) refl refl m
    where
      at : (i j : ℕ) (c t : Bool) → (leb a i && leb i (b - 1)) ≡ c → ltb j w ≡ t → cond t (get_or (put_mid p k xs ys) (i * w + j) Blank) Blank ≡ cond c blank_row (λ n. cond (ltb n w) (get_or xs (i * w + n) Blank) Blank) j
      at i j true true e t = written i j (ltb-true j w t) ∙ cond-true _ _ _ e
      at i j false true e t = written i j (ltb-true j w t) ∙ cond-false _ _ _ e ∙ sym (cond-true _ _ _ t)
      at i j true false e t = refl
      at i j false false e t = sym (cond-false _ _ _ t)

-- blank cells make blank paper
pub paper-blank : (w n : ℕ) → paper_of w (replicate n Blank) ≡ blank_paper
paper-blank w n = λ k i j. at i j k
  where
    at : (i j : ℕ) → paper_of w (replicate n Blank) i j ≡ Blank
    at i j = cond_both (ltb j w) (get_or (replicate n Blank) (i * w + j) Blank) Blank (λ x. x ≡ Blank) (λ _. alike n (i * w + j) Blank) (λ _. refl)
