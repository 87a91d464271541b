-- Changes of a row, cell by cell. Assumes nothing.
use Rattle.std.proofs.Common.{◌≡◌, ℕ, suc, ◌+◌, ◌-◌, ◌<◌, Bool, true, false, cond, ◌&&◌, ◌||◌, eqb, ltb, leb, None, Option, List, length, get_or, set, replicate, sym, refl, ap, ◌∙◌, ⊎_elim, arith}
use Rattle.std.proofs.lemmas.Bool.{cond-true, cond-false, eqb-true, eqb-false, le-leb, lt-leb, cases_lt}
use Rattle.std.proofs.lemmas.Bool.Decides.{nat_tests}
use Rattle.std.proofs.lemmas.List.{get_or_past, get_or-set_same, get_or-set_other, length-replicate}
use borrow.Rule.Slice.PartMut.{put_mid}
use Rattle.screen.specs.Screen.{Row, is_half, split, placed, marked, mark_at, wipe_from}
use Rattle.screen.specs.declared.cells.Cell.{Cell}
use Rattle.screen.specs.declared.cells.Cell.TheVariants.{Blank, Glyph, RightHalf}
use Rattle.grid.specs.Meaning.{row_of}
use Rattle.grid.proofs.Parts.{put-below, put-in, put-above, alike}

-- one cell of a row
abbrev pub one_cell : ℕ → Cell → Row → Row
one_cell c x f j = cond (eqb j c) x (f j)

-- the cells of a row from column a on
abbrev pub clear_from : ℕ → Row → Row
clear_from a f j = cond (leb a j) Blank (f j)

-- what is not blank stands among the cells
pub standing : (cells : List Cell) (j : ℕ) (x : Cell) → x ≡ row_of cells j → (x ≡ Blank → ⊥) → j < length cells
standing cells j x is some = ⊎_elim (λ lt. lt) (λ le. absurd (some (is ∙ get_or_past cells j Blank le))) (cases_lt j (length cells))

-- a cell written is a cell of the row changed
pub row-set : (cells : List Cell) (c : ℕ) (x : Cell) → c < length cells → row_of (set cells c x) ≡ one_cell c x (row_of cells)
row-set cells c x within = λ k j. at j (eqb j c) refl k
  where
    at : (j : ℕ) (b : Bool) → eqb j c ≡ b → get_or (set cells c x) j Blank ≡ cond b x (get_or cells j Blank)
    at j true t = ap (λ n. get_or (set cells c x) n Blank) (eqb-true j c t) ∙ get_or-set_same cells c x Blank within
    at j false t = get_or-set_other cells c j x Blank (eqb-false j c t)

-- blank cells written to a row's end blank the row from there on
pub row-cleared : (a k : ℕ) (xs ys : List Cell) → a + k ≡ length xs → ys ≡ replicate k Blank → row_of (put_mid a k xs ys) ≡ clear_from a (row_of xs)
row-cleared a k xs ys end blank = λ m j. at j m
  where
    long : length ys ≡ k
    long = ap length blank ∙ length-replicate k Blank

    at : (j : ℕ) → get_or (put_mid a k xs ys) j Blank ≡ cond (leb a j) Blank (get_or xs j Blank)
    at j =
        ⊎_elim
        (λ lt. put-below a k xs ys Blank j lt (omega arith) ∙ sym (cond-false _ _ _ (lt-leb a j lt)))
        (λ le. ⊎_elim
        (λ near.
        let here : j ≡ a + (j - a) = omega arith in
        ap (λ n. get_or (put_mid a k xs ys) n Blank) here ∙ put-in a k xs ys Blank (j - a) (omega (arith, long)) (omega arith)
        ∙ ap (λ l. get_or l (j - a) Blank) blank ∙ alike k (j - a) Blank)
        (λ past. put-above a k xs ys Blank j past (omega arith) long ∙ get_or_past xs j Blank (omega arith))
        (cases_lt j (a + k))
        ∙ sym (cond-true _ _ _ (le-leb a j le)))
        (cases_lt j a)

-- a cell that is no right half
pub whole : (x : Cell) → (x ≡ RightHalf → ⊥) → is_half x ≡ false
whole Blank other = refl
whole (Glyph c m) other = refl
whole RightHalf other = absurd (other refl)

-- what is no character takes no mark
pub unmarked : (m : ℕ) (x : Cell) → ((c : ℕ) (k : Option ℕ) → x ≡ Glyph c k → ⊥) → marked m x ≡ x
unmarked m Blank none = refl
unmarked m (Glyph c k) none = absurd (none c k refl)
unmarked m RightHalf none = refl

-- no wide character lies across the edge
pub split-none : (c : ℕ) (w : Row) → is_half (w c) ≡ false → split c w ≡ w
unfolding split
split-none c w whole = λ k j. at j k
  where
    at : (j : ℕ) → cond (is_half (w c) && (eqb (suc j) c || eqb j c)) Blank (w j) ≡ w j
    at j = grind (arith, nat_tests)

-- one lies across it: both halves are blanked
pub split-two : (c : ℕ) (w : Row) → is_half (w c) ≡ true → 0 < c → one_cell (c - 1) Blank (one_cell c Blank w) ≡ split c w
unfolding split
split-two c w half some = λ k j. at j k
  where
    at : (j : ℕ) → one_cell (c - 1) Blank (one_cell c Blank w) j ≡ cond (is_half (w c) && (eqb (suc j) c || eqb j c)) Blank (w j)
    at j = grind (arith, nat_tests)

-- half a character at the row's start
pub split-first : (c : ℕ) (w : Row) → is_half (w c) ≡ true → c ≡ 0 → one_cell c Blank w ≡ split c w
unfolding split
split-first c w half none = λ k j. at j k
  where
    at : (j : ℕ) → one_cell c Blank w j ≡ cond (is_half (w c) && (eqb (suc j) c || eqb j c)) Blank (w j)
    at j = grind (arith, nat_tests)

-- a character of one column
pub placed_one : (c a : ℕ) (w : Row) → one_cell a (Glyph c None) (split (a + 1) (split a w)) ≡ placed 1 c a w
unfolding placed
placed_one c a w = λ k j. at j k
  where
    at : (j : ℕ) → cond (eqb j a) (Glyph c None) (split (a + 1) (split a w) j) ≡ cond (eqb j a) (Glyph c None) (cond (ltb a j && ltb j (a + 1)) RightHalf (split (a + 1) (split a w) j))
    at j = grind (arith, nat_tests)

-- a character of two columns
pub placed-two : (c a : ℕ) (w : Row) → one_cell (a + 1) RightHalf (one_cell a (Glyph c None) (split (a + 2) (split a w))) ≡ placed 2 c a w
unfolding placed
placed-two c a w = λ k j. at j k
  where
    at : (j : ℕ) → cond (eqb j (a + 1)) RightHalf (cond (eqb j a) (Glyph c None) (split (a + 2) (split a w) j)) ≡ cond (eqb j a) (Glyph c None) (cond (ltb a j && ltb j (a + 2)) RightHalf (split (a + 2) (split a w) j))
    at j = grind (arith, nat_tests)

-- a mark on a character
pub mark-glyph : (m a : ℕ) (w : Row) (x : Cell) → w a ≡ x → one_cell a (marked m x) w ≡ mark_at m a w
unfolding mark_at
mark-glyph m a w x e = λ k j. at j (eqb j a) refl k
  where
    at : (j : ℕ) (b : Bool) → eqb j a ≡ b → cond b (marked m x) (w j) ≡ cond b (marked m (w j)) (w j)
    at j true t = ap (marked m) (sym (ap w (eqb-true j a t) ∙ e))
    at j false t = refl

-- a mark on what takes none
pub mark-none : (m a : ℕ) (w : Row) → marked m (w a) ≡ w a → mark_at m a w ≡ w
unfolding mark_at
mark-none m a w e = λ k j. at j (eqb j a) refl k
  where
    at : (j : ℕ) (b : Bool) → eqb j a ≡ b → cond b (marked m (w j)) (w j) ≡ w j
    at j true t = let same = eqb-true j a t in ap (λ n. marked m (w n)) same ∙ e ∙ sym (ap w same)
    at j false t = refl

-- a row wiped from a column on
pub wipe-clear : (a : ℕ) (w : Row) → clear_from a (split a w) ≡ wipe_from a w
unfolding wipe_from
wipe-clear a w = refl
