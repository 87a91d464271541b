-- What a row's changes keep: right halves exactly behind wide characters, marks on characters, nothing past the last column.
use Rattle.std.proofs.Common.{◌≡◌, ℕ, zero, suc, ◌+◌, ◌<◌, ◌≤◌, Bool, true, false, cond, ◌&&◌, ◌||◌, eqb, ltb, leb, ◌≢◌, ◌⊎◌, None, sym, refl, ap, ◌∙◌, inl, inr, arith, eq-eqb}
use Rattle.screen.specs.Laws.{Formed, cell_fits, is_wide, mark_fits}
use Rattle.screen.specs.Screen.{Geometry, Row, blank_row, is_half, mark_at, marked, placed, split, wipe_from}
use Rattle.screen.specs.declared.cells.Cell.{Cell}
use Rattle.screen.specs.declared.cells.Cell.TheVariants.{Blank, Glyph, RightHalf}
use Rattle.std.proofs.lemmas.Bool.{and_from, and_parts, cases_eq, cases_lt, cases_order, cond_both, cond-true, lt-ltb, ne_eqb}
use Rattle.std.proofs.lemmas.Bool.Decides.{nat_tests}

bit : Bool → ℕ
bit b = cond b 1 0

true-false : {A : Type 0} → (b : Bool) → b ≡ true → b ≡ false → A
unfolding bit
true-false true p q = absurd (omega (arith, ap bit q))
true-false false p q = absurd (omega (arith, ap bit p))

split-none : (a : ℕ) (f : Row) (j : ℕ) → is_half (f a) ≡ false → split a f j ≡ f j
unfolding split
split-none a f j e = rw e

split-same : (a : ℕ) (f : Row) (j : ℕ) → suc j ≢ a → j ≢ a → split a f j ≡ f j
unfolding split
split-same a f j h k = grind (arith, nat_tests)

split-left : (k : ℕ) (f : Row) → is_half (f (suc k)) ≡ true → split (suc k) f k ≡ Blank
unfolding split
split-left k f e = grind (arith, nat_tests)

split-right : (a : ℕ) (f : Row) → is_half (f a) ≡ true → split a f a ≡ Blank
unfolding split
split-right a f e = grind (arith, nat_tests)

-- no right half stands at an edge that was split
pub split-edge : (a : ℕ) (f : Row) → is_half (split a f a) ≡ false
split-edge a f = go (is_half (f a)) refl
  where
    go : (b : Bool) → is_half (f a) ≡ b → is_half (split a f a) ≡ false
    go true e = ap is_half (split-right a f e)
    go false e = ap is_half (split-none a f a e) ∙ e

-- a cell is as it was, or blank
split-keeps : (P : Cell → Type 0) (a : ℕ) (f : Row) (j : ℕ) → P Blank → P (f j) → P (split a f j)
unfolding split
split-keeps P a f j x y = cond_both (is_half (f a) && (eqb (suc j) a || eqb j a)) Blank (f j) P (λ t. x) (λ t. y)

module _ (d : Geometry) where
  pub formed-blank : Formed d blank_row
  formed-blank = record { first = refl; halves = λ j. refl; cells = λ j. refl; past = λ j h. refl }

  -- a wide character is no right half
  wide-whole : (x : Cell) → is_wide d x ≡ true → is_half x ≡ false
  wide-whole Blank e = refl
  wide-whole (Glyph c m) e = refl
  wide-whole RightHalf e = true-false false e refl

  half-narrow : (x : Cell) → is_half x ≡ true → is_wide d x ≡ false
  half-narrow Blank e = refl
  half-narrow (Glyph c m) e = true-false false e refl
  half-narrow RightHalf e = refl

  split-halves : (k : ℕ) (f : Row) → Formed d f → is_half (f (suc k)) ≡ true → (j : ℕ) → is_half (split (suc k) f (suc j)) ≡ is_wide d (split (suc k) f j)
  split-halves k f w e j = go (cases_eq j k) (cases_eq j (suc k)) (cases_eq (suc j) k)
    where
      go : (j ≡ k) ⊎ (j ≢ k) → (j ≡ suc k) ⊎ (j ≢ suc k) → (suc j ≡ k) ⊎ (suc j ≢ k) → is_half (split (suc k) f (suc j)) ≡ is_wide d (split (suc k) f j)
      go (inl p) y z = rw p (ap is_half (split-right (suc k) f e) ∙ sym (ap (is_wide d) (split-left k f e)))
      go (inr p) (inl y) z =
          rw y (ap is_half (split-same (suc k) f (suc (suc k)) (omega arith) (omega arith)) ∙ w.halves (suc k) ∙ half-narrow (f (suc k)) e ∙ sym (ap (is_wide d) (split-right (suc k) f e)))
      go (inr p) (inr y) (inl z) =
          ap is_half (ap (split (suc k) f) z ∙ split-left k f e)
          ∙ sym (ap (is_wide d) (split-same (suc k) f j (omega arith) y) ∙ sym (w.halves j) ∙ ap (λ i. is_half (f i)) z ∙ wide-whole (f k) (sym (w.halves k) ∙ e))
      go (inr p) (inr y) (inr z) =
          ap is_half (split-same (suc k) f (suc j) (omega arith) (omega arith)) ∙ w.halves j ∙ sym (ap (is_wide d) (split-same (suc k) f j (omega arith) y))

  pub formed-split : (a : ℕ) (f : Row) → Formed d f → Formed d (split a f)
  formed-split a f w = record {
    first = split-keeps (λ x. is_half x ≡ false) a f 0 refl w.first;
    halves = halves_of a (is_half (f a)) refl;
    cells = λ j. split-keeps (λ x. cell_fits d x ≡ true) a f j refl (w.cells j);
    past = λ j h. split-keeps (λ x. x ≡ Blank) a f j refl (w.past j h);
  }
    where
      halves_of : (a : ℕ) (b : Bool) → is_half (f a) ≡ b → (j : ℕ) → is_half (split a f (suc j)) ≡ is_wide d (split a f j)
      halves_of a false e j = ap is_half (split-none a f (suc j) e) ∙ w.halves j ∙ sym (ap (is_wide d) (split-none a f j e))
      halves_of zero true e j = true-false (is_half (f 0)) e w.first
      halves_of (suc k) true e j = split-halves k f w e j

  wipe-in : (a : ℕ) (f : Row) (j : ℕ) → a ≤ j → wipe_from a f j ≡ Blank
  unfolding wipe_from
  wipe-in a f j h = grind (arith, nat_tests)

  wipe-out : (a : ℕ) (f : Row) (j : ℕ) → j < a → wipe_from a f j ≡ split a f j
  unfolding wipe_from
  wipe-out a f j h = grind (arith, nat_tests)

  wipe-keeps : (P : Cell → Type 0) (a : ℕ) (f : Row) (j : ℕ) → P Blank → P (split a f j) → P (wipe_from a f j)
  unfolding wipe_from
  wipe-keeps P a f j x y = cond_both (leb a j) Blank (split a f j) P (λ t. x) (λ t. y)

  pub formed-wipe : (a : ℕ) (f : Row) → Formed d f → Formed d (wipe_from a f)
  formed-wipe a f w = record {
    first = wipe-keeps (λ x. is_half x ≡ false) a f 0 refl g.first;
    halves = λ j. go j (cases_lt (suc j) a) (cases_lt j a);
    cells = λ j. wipe-keeps (λ x. cell_fits d x ≡ true) a f j refl (g.cells j);
    past = λ j h. wipe-keeps (λ x. x ≡ Blank) a f j refl (g.past j h);
  }
    where
      g : Formed d (split a f)
      g = formed-split a f w

      edge : (i : ℕ) → i ≡ a → is_half (split a f i) ≡ false
      edge i e = rw e (split-edge a f)

      go : (j : ℕ) → (suc j < a) ⊎ (a ≤ suc j) → (j < a) ⊎ (a ≤ j) → is_half (wipe_from a f (suc j)) ≡ is_wide d (wipe_from a f j)
      go j (inl p) y = ap is_half (wipe-out a f (suc j) p) ∙ g.halves j ∙ sym (ap (is_wide d) (wipe-out a f j (omega arith)))
      go j (inr p) (inl y) = ap is_half (wipe-in a f (suc j) p) ∙ sym (ap (is_wide d) (wipe-out a f j y) ∙ sym (g.halves j) ∙ edge (suc j) (omega arith))
      go j (inr p) (inr y) = ap is_half (wipe-in a f (suc j) p) ∙ sym (ap (is_wide d) (wipe-in a f j y))

  -- a mark changes neither halves nor widths
  marked-half : (m : ℕ) (x : Cell) → is_half (marked m x) ≡ is_half x
  marked-half m Blank = refl
  marked-half m (Glyph c k) = refl
  marked-half m RightHalf = refl

  marked-wide : (m : ℕ) (x : Cell) → is_wide d (marked m x) ≡ is_wide d x
  marked-wide m Blank = refl
  marked-wide m (Glyph c k) = refl
  marked-wide m RightHalf = refl

  marked-fits : (m : ℕ) (x : Cell) → d.width m ≡ 0 → cell_fits d x ≡ true → cell_fits d (marked m x) ≡ true
  marked-fits m Blank e h = refl
  marked-fits m (Glyph c k) e h = and_from _ _ (and_parts (ltb 0 (d.width c)) (mark_fits d k) h).0 (eq-eqb (d.width m) 0 e)
  marked-fits m RightHalf e h = refl

  mark-keeps : (P : Cell → Type 0) (m a : ℕ) (f : Row) (j : ℕ) → P (marked m (f j)) → P (f j) → P (mark_at m a f j)
  unfolding mark_at
  mark-keeps P m a f j x y = cond_both (eqb j a) (marked m (f j)) (f j) P (λ t. x) (λ t. y)

  mark-half : (m a : ℕ) (f : Row) (j : ℕ) → is_half (mark_at m a f j) ≡ is_half (f j)
  mark-half m a f j = mark-keeps (λ x. is_half x ≡ is_half (f j)) m a f j (marked-half m (f j)) refl

  mark-wide : (m a : ℕ) (f : Row) (j : ℕ) → is_wide d (mark_at m a f j) ≡ is_wide d (f j)
  mark-wide m a f j = mark-keeps (λ x. is_wide d x ≡ is_wide d (f j)) m a f j (marked-wide m (f j)) refl

  pub formed-mark : (m a : ℕ) (f : Row) → d.width m ≡ 0 → Formed d f → Formed d (mark_at m a f)
  formed-mark m a f e w = record {
    first = mark-half m a f 0 ∙ w.first;
    halves = λ j. mark-half m a f (suc j) ∙ w.halves j ∙ sym (mark-wide m a f j);
    cells = λ j. mark-keeps (λ x. cell_fits d x ≡ true) m a f j (marked-fits m (f j) e (w.cells j)) (w.cells j);
    past = λ j h. mark-keeps (λ x. x ≡ Blank) m a f j (ap (marked m) (w.past j h)) (w.past j h);
  }

  -- a character's cells
  placed-glyph : (k c a : ℕ) (f : Row) (j : ℕ) → j ≡ a → placed k c a f j ≡ Glyph c None
  unfolding placed
  placed-glyph k c a f j e = cond-true (eqb j a) _ _ (eq-eqb j a e)

  placed-half : (k c a : ℕ) (f : Row) (j : ℕ) → a < j → j < a + k → placed k c a f j ≡ RightHalf
  unfolding placed
  placed-half k c a f j h l = grind (arith, nat_tests)

  placed-other : (k c a : ℕ) (f : Row) (j : ℕ) → (j < a) ⊎ (a + k ≤ j) → 0 < k → placed k c a f j ≡ split (a + k) (split a f) j
  unfolding placed
  placed-other k c a f j h l = grind (arith, nat_tests)

  pub formed-placed : (c a : ℕ) (f : Row) → 0 < d.width c → d.width c ≤ 2 → a + d.width c ≤ d.cols → Formed d f → Formed d (placed (d.width c) c a f)
  formed-placed c a f pos two fits w = record {
    first = first_of (cases_eq a 0);
    halves = λ j. halves_of j (cases_order (suc j) a) (cases_lt j (a + k)) (cases_lt (suc j) (a + k));
    cells = λ j. cells_of j (cases_order j a) (cases_lt j (a + k));
    past = λ j h. other j (inr (omega arith)) ∙ g.past j h;
  }
    where
      k : ℕ
      k = d.width c

      g : Formed d (split (a + d.width c) (split a f))
      g = formed-split (a + d.width c) (split a f) (formed-split a f w)

      other : (j : ℕ) → (j < a) ⊎ (a + d.width c ≤ j) → placed (d.width c) c a f j ≡ split (a + d.width c) (split a f) j
      other j h = placed-other (d.width c) c a f j h pos

      first_of : (a ≡ 0) ⊎ (a ≢ 0) → is_half (placed (d.width c) c a f 0) ≡ false
      first_of (inl e) = ap is_half (placed-glyph (d.width c) c a f 0 (sym e))
      first_of (inr e) = ap is_half (other 0 (inl (omega arith))) ∙ g.first

      -- no right half stands at the new character's two edges
      left : (j : ℕ) → j ≡ a → is_half (split (a + d.width c) (split a f) j) ≡ false
      left j e = split-keeps (λ x. is_half x ≡ false) (a + d.width c) (split a f) j refl (rw e (split-edge a f))

      right : (j : ℕ) → j ≡ a + d.width c → is_half (split (a + d.width c) (split a f) j) ≡ false
      right j e = rw e (split-edge (a + d.width c) (split a f))

      cells_of : (j : ℕ) → (j ≡ a) ⊎ ((j < a) ⊎ (a < j)) → (j < a + d.width c) ⊎ (a + d.width c ≤ j) → cell_fits d (placed (d.width c) c a f j) ≡ true
      cells_of j (inl e) y = ap (cell_fits d) (placed-glyph (d.width c) c a f j e) ∙ and_from _ _ (lt-ltb 0 (d.width c) pos) refl
      cells_of j (inr (inl h)) y = ap (cell_fits d) (other j (inl h)) ∙ g.cells j
      cells_of j (inr (inr h)) (inl y) = ap (cell_fits d) (placed-half (d.width c) c a f j h y)
      cells_of j (inr (inr h)) (inr y) = ap (cell_fits d) (other j (inr y)) ∙ g.cells j

      halves_of : (j : ℕ) → (suc j ≡ a) ⊎ ((suc j < a) ⊎ (a < suc j)) → (j < a + d.width c) ⊎ (a + d.width c ≤ j) → (suc j < a + d.width c) ⊎ (a + d.width c ≤ suc j) → is_half (placed (d.width c) c a f (suc j)) ≡ is_wide d (placed (d.width c) c a f j)
      -- before the character
      halves_of j (inl e) y z = ap is_half (placed-glyph (d.width c) c a f (suc j) e) ∙ sym (ap (is_wide d) (other j (inl (omega arith))) ∙ sym (g.halves j) ∙ left (suc j) e)
      halves_of j (inr (inl h)) y z = ap is_half (other (suc j) (inl h)) ∙ g.halves j ∙ sym (ap (is_wide d) (other j (inl (omega arith))))
      -- inside it: the glyph of a wide one
      halves_of j (inr (inr h)) (inl y) (inl z) =
          ap is_half (placed-half (d.width c) c a f (suc j) h z) ∙ sym (ap (is_wide d) (placed-glyph (d.width c) c a f j (omega arith)) ∙ eq-eqb (d.width c) 2 (omega arith))
      -- its last cell
      halves_of j (inr (inr h)) (inl y) (inr z) =
          ap is_half (other (suc j) (inr z)) ∙ right (suc j) (omega arith) ∙ sym (last (cases_eq j a))
        where
          last : (j ≡ a) ⊎ (j ≢ a) → is_wide d (placed (d.width c) c a f j) ≡ false
          last (inl e) = ap (is_wide d) (placed-glyph (d.width c) c a f j e) ∙ ne_eqb (d.width c) 2 (omega arith)
          last (inr e) = ap (is_wide d) (placed-half (d.width c) c a f j (omega arith) y)
      -- behind it
      halves_of j (inr (inr h)) (inr y) z = ap is_half (other (suc j) (inr (omega arith))) ∙ g.halves j ∙ sym (ap (is_wide d) (other j (inr y)))
