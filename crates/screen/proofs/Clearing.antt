-- Home and erase.
use Rattle.std.proofs.Common.{◌≡◌, ℕ, suc, ◌+◌, ◌-◌, ◌<◌, ◌≤◌, min, ◌⊎◌, [], ◌∷◌, refl, ap, inl, inr, arith}
use mathlib.Core.Path.{fun_ext}
use Rattle.screen.proofs.Drawing.{over-above, screen-path}
use Rattle.screen.proofs.Erasing.{cut, cut_below, stand, wipe-all}
use Rattle.screen.proofs.Translate.{pen-path}
use Rattle.screen.specs.Bytes.{act, begin, feed, finish, step_in}
use Rattle.screen.specs.Laws.{Clears, Kept}
use Rattle.screen.specs.Screen.{Geometry, Paper, Row, Screen, blank_paper, on_row, over, rows_from, wipe_from}
use Rattle.screen.specs.declared.cells.Cell.TheVariants.{Blank}
use Rattle.std.proofs.lemmas.Bool.{cases_lt}
use Rattle.std.proofs.lemmas.Bool.Decides.{nat_tests}

wiped-cut : (t n c : ℕ) (p : Paper) → c ≡ 0 → 0 < n → ((i j : ℕ) → t + n ≤ i → p i j ≡ Blank) → rows_from (suc t) (t + n - 1) (on_row t (wipe_from c) p) ≡ cut t p
unfolding rows_from on_row over
wiped-cut t n c p z h w = fun_ext λ i. fun_ext λ j. rw z (go i j (cases_lt i (t + n)))
  where
    go : (i j : ℕ) → (i < t + n) ⊎ (t + n ≤ i) → rows_from (suc t) (t + n - 1) (on_row t (wipe_from 0) p) i j ≡ cut t p i j
    go i j (inl l) = let e : wipe_from 0 (p i) j ≡ Blank = ap (λ (f : Row). f j) (wipe-all (p i)) in grind (arith, nat_tests)
    go i j (inr l) = let e = w i j l in grind (arith, nat_tests)

pub cleared-is : (d : Geometry) (s : Screen) → 0 < d.rows → Kept d s → feed d (27 ∷ 91 ∷ 72 ∷ 27 ∷ 91 ∷ 74 ∷ []) s ≡ stand (cut s.top s.pen.paper) s.top s
unfolding step_in begin finish act
cleared-is d s h k = screen-path (pen-path (wiped-cut s.top d.rows (min 0 (d.cols - 1)) s.pen.paper (omega arith) h k.below) refl (omega arith) refl) refl refl refl

pub clears-proof : Clears
clears-proof d s h k = rw (cleared-is d s h k) (record {
  fresh = record { sound = record { idle = refl; above = omega arith; inside = omega arith; fits = omega arith }; start = refl; apart = refl; blanks = cut_below s.top s.pen.paper };
  line = refl;
  upper = λ i j l. ap (λ (f : Row). f j) (over-above s.top s.pen.paper blank_paper i l);
  window = refl;
  held = refl;
})
