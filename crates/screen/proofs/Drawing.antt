-- Drawing on a screen, with its window.
use Rattle.std.proofs.Common.{◌≡◌, ℕ, ◌+◌, ◌<◌, ◌≤◌, Bool, true, false, cond, eqb, ltb, List, [], ◌∷◌, Some, None, Option, sym, refl, ap, ◌∙◌, arith}
use mathlib.Core.Path.{fun_ext}
use Rattle.screen.proofs.Translate.{lift-draw, pen-path}
use Rattle.screen.specs.Laws.{Draws, Fresh}
use Rattle.screen.specs.Screen.{Geometry, Paper, Pen, Row, Screen, blank_paper, blank_pen, blank_row, block, combine, draw, draw_pen, follow, lift, over, put, put_pen, room}
use Rattle.screen.specs.declared.cells.Cell.TheVariants.{Blank}
use Rattle.screen.specs.declared.cells.Parser.TheVariants.{Ground}
use Rattle.std.proofs.lemmas.Bool.{cond_both, ltb-false}
use Rattle.std.proofs.lemmas.Bool.Decides.{nat_tests}
use Rattle.text.specs.Characters.{is_control}

pub screen-path : {s t : Screen} → s.pen ≡ t.pen → s.top ≡ t.top → s.held ≡ t.held → s.parser ≡ t.parser → s ≡ t
screen-path a b c e = λ i. record { pen = a i; top = b i; held = c i; parser = e i }

-- the cursor never goes up
room-down : (b : Bool) (p : Pen) → p.row ≤ (room b p).row
room-down true p = omega arith
room-down false p = omega arith

combine-down : (o : Option ℕ) (c : ℕ) (p : Pen) → p.row ≤ (combine o c p).row
combine-down None c p = omega arith
combine-down (Some j) c p = omega arith

cond-down : (b : Bool) (n : ℕ) (p q : Pen) → n ≤ p.row → n ≤ q.row → n ≤ (cond b p q).row
cond-down true n p q h k = h
cond-down false n p q h k = k

pub put-down : (d : Geometry) (c : ℕ) (p : Pen) → p.row ≤ (put_pen d c p).row
unfolding put_pen
put-down d c p =
    cond-down (is_control c) _ _ _ (cond-down (eqb c 10) _ _ _ (omega arith) (cond-down (eqb c 13) _ _ _ (omega arith) (omega arith)))
    (cond-down (eqb (d.width c) 0) _ _ _ (combine-down p.join c p) (room-down (ltb d.cols (p.col + d.width c)) p))

pub draw-down : (d : Geometry) (cs : List ℕ) (p : Pen) → p.row ≤ (draw_pen d cs p).row
draw-down d [] p = omega arith
draw-down d (c ∷ cs) p = omega (arith, put-down d c p, draw-down d cs (put_pen d c p))

-- the window follows the cursor once, at the end
pub draw-is : (d : Geometry) (cs : List ℕ) (s : Screen) → s.parser ≡ Ground → s.pen.row < s.top + d.rows → draw d cs s ≡ follow d (draw_pen d cs s.pen) s
draw-is d [] s e h = screen-path refl (omega arith) refl e
draw-is d (c ∷ cs) s e h =
    draw-is d cs (put d c s) refl (omega arith)
    ∙ screen-path refl (omega (arith, draw-down d cs (put_pen d c s.pen))) refl refl

-- paper that is Blank from row r on
pub over-blank : (r : ℕ) (up : Paper) → ((i j : ℕ) → r ≤ i → up i j ≡ Blank) → over r up blank_paper ≡ up
unfolding over
over-blank r up h = fun_ext λ i. fun_ext λ j. cond_both (ltb i r) (up i) blank_row (λ (w : Row). w j ≡ up i j) (λ e. refl) (λ e. sym (h i j (ltb-false i r e)))

pub over-above : (r : ℕ) (up p : Paper) (i : ℕ) → i < r → over r up p i ≡ up i
unfolding over
over-above r up p i h = grind (arith, nat_tests)

pub over_below : (r : ℕ) (up p : Paper) (i : ℕ) → over r up p (r + i) ≡ p i
unfolding over
over_below r up p i = grind (arith, nat_tests)

pub draw-fresh : (d : Geometry) (cs : List ℕ) (s : Screen) → Fresh d s → draw d cs s ≡ follow d (lift s.pen.row s.pen.paper (block d cs)) s
draw-fresh d cs s f = draw-is d cs s f.sound.idle f.sound.inside ∙ ap (λ p. follow d p s) (ap (draw_pen d cs) fresh ∙ lift-draw s.pen.row s.pen.paper d cs blank_pen)
  where
    fresh : s.pen ≡ lift s.pen.row s.pen.paper blank_pen
    fresh = pen-path (sym (over-blank s.pen.row s.pen.paper f.blanks)) (omega arith) f.start f.apart

pub draws-proof : Draws
draws-proof d cs s f = rw (draw-fresh d cs s f) (record {
  upper = λ i j h. ap (λ (w : Row). w j) (over-above s.pen.row s.pen.paper (block d cs).paper i h);
  lower = λ i j. ap (λ (w : Row). w j) (over_below s.pen.row s.pen.paper (block d cs).paper i);
  line = refl;
  place = refl;
  joins = refl;
  window = refl;
  held = refl;
  idle = refl;
})
