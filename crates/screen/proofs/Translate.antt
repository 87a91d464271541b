-- Drawing does not depend on the row that it starts from, nor on what stands above.
use Rattle.std.proofs.Common.{◌≡◌, ℕ, ◌+◌, Bool, true, false, cond, eqb, ltb, List, [], ◌∷◌, Some, None, Option, refl, ap, ◌∙◌, arith}
use mathlib.Core.Path.{fun_ext}
use Rattle.screen.specs.Screen.{Geometry, Paper, Pen, Row, carriage, combine, control, draw_pen, lift, mark_at, newline, on_row, over, placed, put_pen, quiet, room, takes}
use Rattle.std.proofs.lemmas.Bool.Decides.{nat_tests}
use Rattle.text.specs.Characters.{is_control}

pub pen-path : {p q : Pen} → p.paper ≡ q.paper → p.row ≡ q.row → p.col ≡ q.col → p.join ≡ q.join → p ≡ q
pen-path a b c e = λ i. record { paper = a i; row = b i; col = c i; join = e i }

-- a row of the lower part changed
over-on_row : (r : ℕ) (up p : Paper) (i : ℕ) (f : Row → Row) → on_row (r + i) f (over r up p) ≡ over r up (on_row i f p)
unfolding on_row over
over-on_row r up p i f = fun_ext λ k. grind (arith, nat_tests)

module _ (r : ℕ) (up : Paper) where
  lift-newline : (p : Pen) → newline (lift r up p) ≡ lift r up (newline p)
  lift-newline p = pen-path refl (omega arith) refl refl

  lift-room : (b : Bool) (p : Pen) → room b (lift r up p) ≡ lift r up (room b p)
  lift-room true p = lift-newline p
  lift-room false p = refl

  lift-takes : (w c : ℕ) (p : Pen) → takes w c (lift r up p) ≡ lift r up (takes w c p)
  lift-takes w c p = pen-path (over-on_row r up p.paper p.row (placed w c p.col)) refl refl refl

  lift-combine : (o : Option ℕ) (c : ℕ) (p : Pen) → combine o c (lift r up p) ≡ lift r up (combine o c p)
  lift-combine None c p = refl
  lift-combine (Some j) c p = pen-path (over-on_row r up p.paper p.row (mark_at c j)) refl refl refl

  lift-cond : (b : Bool) (f g : Pen → Pen) (p : Pen) → f (lift r up p) ≡ lift r up (f p) → g (lift r up p) ≡ lift r up (g p) → cond b (f (lift r up p)) (g (lift r up p)) ≡ lift r up (cond b (f p) (g p))
  lift-cond true f g p x y = x
  lift-cond false f g p x y = y

  lift-control : (c : ℕ) (p : Pen) → control c (lift r up p) ≡ lift r up (control c p)
  lift-control c p = lift-cond (eqb c 10) newline (λ q. cond (eqb c 13) (carriage q) (quiet q)) p (lift-newline p) (lift-cond (eqb c 13) carriage quiet p refl refl)

  pub lift-put : (d : Geometry) (c : ℕ) (p : Pen) → put_pen d c (lift r up p) ≡ lift r up (put_pen d c p)
  unfolding put_pen
  lift-put d c p =
      let n = ltb d.cols (p.col + d.width c) in
      lift-cond (is_control c) (control c) (λ q. cond (eqb (d.width c) 0) (combine p.join c q) (takes (d.width c) c (room n q))) p (lift-control c p)
      (lift-cond (eqb (d.width c) 0) (combine p.join c) (λ q. takes (d.width c) c (room n q)) p (lift-combine p.join c p)
      (ap (takes (d.width c) c) (lift-room n p) ∙ lift-takes (d.width c) c (room n p)))

  pub lift-draw : (d : Geometry) (cs : List ℕ) (p : Pen) → draw_pen d cs (lift r up p) ≡ lift r up (draw_pen d cs p)
  lift-draw d [] p = refl
  lift-draw d (c ∷ cs) p = ap (draw_pen d cs) (lift-put d c p) ∙ lift-draw d cs (put_pen d c p)
