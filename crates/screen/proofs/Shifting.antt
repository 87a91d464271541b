-- The cursor goes from one place of a block to another.
use Rattle.std.proofs.Common.{◌≡◌, ℕ, zero, suc, ◌+◌, ◌-◌, ◌<◌, ◌≤◌, max, Bool, true, false, ltb, List, [], ◌∷◌, None, Option, refl, ap, ◌∙◌, arith}
use Rattle.screen.proofs.Drawing.{screen-path}
use Rattle.screen.proofs.Moving.{moves-proof}
use Rattle.screen.proofs.Refreshing.{view}
use Rattle.screen.proofs.Sequences.{feed-append}
use Rattle.screen.proofs.Translate.{pen-path}
use Rattle.screen.specs.Bytes.{act, begin, column, feed, finish, move, step_in}
use Rattle.screen.specs.Laws.{Sound}
use Rattle.screen.specs.Output.{hold_bytes, move_bytes, release_bytes, shift_by, shift_from}
use Rattle.screen.specs.Screen.{Geometry, Paper, Screen, put_pen}
use Rattle.std.proofs.lemmas.Bool.{cond_both, ltb-false, ltb-true}

-- a screen that differs in its place alone; where the cursor may have joined is left open
abbrev pub Goes : Geometry → List ℕ → Paper → ℕ → ℕ → Option ℕ → ℕ → Bool → ℕ → ℕ → Type 0
Goes d bs q i j o t h k l = (w : Option ℕ) × (feed d bs (view q i j o t h) ≡ view q k l w t h)

goes_to : (d : Geometry) (bs : List ℕ) (q : Paper) (i j : ℕ) (o : Option ℕ) (t : ℕ) (h : Bool) (k l m n : ℕ) → k ≡ m → l ≡ n → Goes d bs q i j o t h k l → Goes d bs q i j o t h m n
goes_to d bs q i j o t h k l m n e f (w, g) = (w, g ∙ (λ x. view q (e x) (f x) w t h))

module _ (d : Geometry) (q : Paper) (i j : ℕ) (o : Option ℕ) (t : ℕ) (h : Bool) (above : t ≤ i) (inside : i < t + d.rows) (roomy : j < d.cols) (wide : d.cols ≤ 9999) (high : d.rows ≤ 9999) where
  sound : Sound d (view q i j o t h)
  sound = record { idle = refl; above = above; inside = inside; fits = omega arith }

  col-here : column d (view q i j o t h) ≡ j
  col-here = omega arith

  up : (n : ℕ) → t + n ≤ i → Goes d (shift_by 65 n) q i j o t h (i - n) j
  unfolding step_in begin finish act move
  up zero l = (o, λ x. view q (e x) j o t h)
    where
      e : i ≡ i - 0
      e = omega arith
  up (suc zero) l = (None, screen-path (pen-path refl (omega arith) (omega arith) refl) refl refl refl)
  up (suc (suc n)) l = (None, (moves-proof d (suc (suc n)) (view q i j o t h) sound (omega arith) (omega arith)).0 l ∙ ap (λ x. view q (i - suc (suc n)) x None t h) col-here)

  down : (n : ℕ) → i + n < t + d.rows → Goes d (shift_by 66 n) q i j o t h (i + n) j
  unfolding step_in begin finish act move
  down zero l = (o, λ x. view q (e x) j o t h)
    where
      e : i ≡ i + 0
      e = omega arith
  down (suc zero) l = (None, screen-path (pen-path refl (omega arith) (omega arith) refl) refl refl refl)
  down (suc (suc n)) l = (None, (moves-proof d (suc (suc n)) (view q i j o t h) sound (omega arith) (omega arith)).1 l ∙ ap (λ x. view q (i + suc (suc n)) x None t h) col-here)

  right : (n : ℕ) → j + n < d.cols → Goes d (shift_by 67 n) q i j o t h i (j + n)
  unfolding step_in begin finish act move
  right zero l = (o, λ x. view q i (e x) o t h)
    where
      e : j ≡ j + 0
      e = omega arith
  right (suc zero) l = (None, screen-path (pen-path refl refl (omega arith) refl) refl refl refl)
  right (suc (suc n)) l = (None, (moves-proof d (suc (suc n)) (view q i j o t h) sound (omega arith) (omega arith)).2 (omega arith) ∙ ap (λ x. view q i x None t h) (omega arith))

  left : (n : ℕ) → n ≤ j → Goes d (shift_by 68 n) q i j o t h i (j - n)
  unfolding step_in begin finish act move
  left zero l = (o, λ x. view q i (e x) o t h)
    where
      e : j ≡ j - 0
      e = omega arith
  left (suc zero) l = (None, screen-path (pen-path refl refl (omega arith) refl) refl refl refl)
  left (suc (suc n)) l = (None, (moves-proof d (suc (suc n)) (view q i j o t h) sound (omega arith) (omega arith)).3 (omega arith) ∙ ap (λ x. view q i x None t h) (omega arith))

module _ (d : Geometry) (q : Paper) (r : ℕ) (t : ℕ) (h : Bool) (above : t ≤ r) (wide : d.cols ≤ 9999) (high : d.rows ≤ 9999) where
  shift-row : (i k j : ℕ) (o : Option ℕ) → r + i < t + d.rows → r + k < t + d.rows → j < d.cols → Goes d (shift_from 66 65 i k) q (r + i) j o t h (r + k) j
  shift-row i k j o a b c = cond_both (ltb i k) (shift_by 66 (k - i)) (shift_by 65 (i - k)) (λ bs. Goes d bs q (r + i) j o t h (r + k) j)
      (λ e. let l = ltb-true i k e in goes_to d (shift_by 66 (k - i)) q (r + i) j o t h (r + i + (k - i)) j (r + k) j (omega arith) refl (down d q (r + i) j o t h (omega arith) a c wide high (k - i) (omega arith)))
      (λ e. let l = ltb-false i k e in goes_to d (shift_by 65 (i - k)) q (r + i) j o t h (r + i - (i - k)) j (r + k) j (omega arith) refl (up d q (r + i) j o t h (omega arith) a c wide high (i - k) (omega arith)))

  shift-col : (i j l : ℕ) (o : Option ℕ) → r + i < t + d.rows → j < d.cols → l < d.cols → Goes d (shift_from 67 68 j l) q (r + i) j o t h (r + i) l
  shift-col i j l o a b c = cond_both (ltb j l) (shift_by 67 (l - j)) (shift_by 68 (j - l)) (λ bs. Goes d bs q (r + i) j o t h (r + i) l)
      (λ e. let m = ltb-true j l e in goes_to d (shift_by 67 (l - j)) q (r + i) j o t h (r + i) (j + (l - j)) (r + i) l refl (omega arith) (right d q (r + i) j o t h (omega arith) a b wide high (l - j) (omega arith)))
      (λ e. let m = ltb-false j l e in goes_to d (shift_by 68 (j - l)) q (r + i) j o t h (r + i) (j - (j - l)) (r + i) l refl (omega arith) (left d q (r + i) j o t h (omega arith) a b wide high (j - l) (omega arith)))

  -- from a place of the block to another
  pub moved-is : (i j k l : ℕ) (o : Option ℕ) → r + i < t + d.rows → r + k < t + d.rows → j < d.cols → l < d.cols → Goes d (move_bytes i j k l) q (r + i) j o t h (r + k) l
  moved-is i j k l o a b c e =
      let x = shift-row i k j o a b c in
      let y = shift-col k j l x.0 b c e in
      (y.0, feed-append d (shift_from 66 65 i k) (shift_from 67 68 j l) (view q (r + i) j o t h) ∙ ap (feed d (shift_from 67 68 j l)) x.1 ∙ y.1)

-- LF, a held update's begin and end
pub line-feed-is : (d : Geometry) (q : Paper) (i j : ℕ) (o : Option ℕ) (t : ℕ) (h : Bool) → feed d (10 ∷ []) (view q i j o t h) ≡ view q (suc i) 0 None (max t (suc (suc i) - d.rows)) h
unfolding step_in begin put_pen
line-feed-is d q i j o t h = refl

pub hold-is : (d : Geometry) (q : Paper) (i j : ℕ) (o : Option ℕ) (t : ℕ) (h : Bool) → feed d hold_bytes (view q i j o t h) ≡ view q i j None t true
unfolding step_in begin finish act
hold-is d q i j o t h = refl

pub release-is : (d : Geometry) (q : Paper) (i j : ℕ) (o : Option ℕ) (t : ℕ) (h : Bool) → feed d release_bytes (view q i j o t h) ≡ view q i j None t false
unfolding step_in begin finish act
release-is d q i j o t h = refl

-- an update that may be held is let go, whatever is unfinished
pub let-go-is : (d : Geometry) (s : Screen) → feed d release_bytes s ≡ view s.pen.paper s.pen.row s.pen.col None s.top false
unfolding step_in begin finish act
let-go-is d s = refl
