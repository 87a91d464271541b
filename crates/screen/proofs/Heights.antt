-- Where drawing ends, and what it leaves Blank.
use Rattle.std.proofs.Common.{◌≡◌, ℕ, suc, ◌+◌, ◌<◌, ◌≤◌, Bool, true, false, cond, eqb, ltb, ◌≢◌, List, [], ◌∷◌, ◌++◌, Some, None, Option, refl, inl, inr, arith}
use Rattle.screen.specs.Screen.{Geometry, Paper, Pen, Row, blank_pen, block, carriage, combine, draw_pen, full, mark_at, newline, on_row, place_col, place_row, placed, put_pen, quiet, room, takes}
use Rattle.screen.specs.declared.cells.Cell.TheVariants.{Blank}
use Rattle.std.proofs.lemmas.Bool.{cond_both, eqb-false, eqb-true, ltb-false}
use Rattle.std.proofs.lemmas.Bool.Decides.{nat_tests}
use Rattle.text.specs.Characters.{AllGood, Good, is_control}

-- the characters behind others
pub draw-append : (d : Geometry) (es fs : List ℕ) (p : Pen) → draw_pen d (es ++ fs) p ≡ draw_pen d fs (draw_pen d es p)
draw-append d [] fs p = refl
draw-append d (e ∷ es) fs p = draw-append d es fs (put_pen d e p)

-- rows below the cursor are Blank
Below : Pen → Type 0
Below p = (i j : ℕ) → p.row < i → p.paper i j ≡ Blank

below-cond : (b : Bool) (p q : Pen) → Below p → Below q → Below (cond b p q)
below-cond true p q x y = x
below-cond false p q x y = y

below_row : (r : ℕ) (f : Row → Row) (p : Paper) (i j : ℕ) → r < i → p i j ≡ Blank → on_row r f p i j ≡ Blank
unfolding on_row
below_row r f p i j h e = cond_both (eqb i r) _ _ (λ (w : Row). w j ≡ Blank) (λ t. absurd (omega (arith, eqb-true i r t))) (λ t. e)

below-room : (b : Bool) (p : Pen) → Below p → Below (room b p)
unfolding Below
below-room true p x = λ i j h. x i j (omega arith)
below-room false p x = x

below-combine : (o : Option ℕ) (c : ℕ) (p : Pen) → Below p → Below (combine o c p)
unfolding Below
below-combine None c p x = x
below-combine (Some k) c p x = λ i j h. below_row p.row (mark_at c k) p.paper i j h (x i j h)

below-takes : (w c : ℕ) (p : Pen) → Below p → Below (takes w c p)
unfolding Below
below-takes w c p x = λ i j h. below_row p.row (placed w c p.col) p.paper i j h (x i j h)

below-carriage : (p : Pen) → Below p → Below (carriage p)
unfolding Below
below-carriage p x = x

below-quiet : (p : Pen) → Below p → Below (quiet p)
unfolding Below
below-quiet p x = x

below_put : (d : Geometry) (c : ℕ) (p : Pen) → Below p → Below (put_pen d c p)
unfolding put_pen
below_put d c p x =
    below-cond (is_control c) _ _ (below-cond (eqb c 10) _ _ (below-room true p x) (below-cond (eqb c 13) _ _ (below-carriage p x) (below-quiet p x)))
    (below-cond (eqb (d.width c) 0) _ _ (below-combine p.join c p x) (below-takes (d.width c) c (room (ltb d.cols (p.col + d.width c)) p) (below-room (ltb d.cols (p.col + d.width c)) p x)))

below-draw : (d : Geometry) (cs : List ℕ) (p : Pen) → Below p → Below (draw_pen d cs p)
below-draw d [] p x = x
below-draw d (c ∷ cs) p x = below-draw d cs (put_pen d c p) (below_put d c p x)

pub block-blank : (d : Geometry) (cs : List ℕ) (i j : ℕ) → (block d cs).row < i → (block d cs).paper i j ≡ Blank
unfolding Below
block-blank d cs = below-draw d cs blank_pen (λ i j h. refl)

-- the place never goes up
place-combine : (d : Geometry) (o : Option ℕ) (c : ℕ) (p : Pen) → place_row d (combine o c p) ≡ place_row d p
unfolding place_row full
place-combine d None c p = refl
place-combine d (Some j) c p = refl

pub place-least : (d : Geometry) (p : Pen) → p.row ≤ place_row d p
unfolding place_row full
place-least d p = grind (arith, nat_tests)

place-most : (d : Geometry) (p : Pen) → place_row d p ≤ suc p.row
unfolding place_row full
place-most d p = grind (arith, nat_tests)

place-open : (d : Geometry) (p : Pen) → p.col < d.cols → place_row d p ≡ p.row
unfolding place_row full
place-open d p h = grind (arith, nat_tests)

place-takes : (d : Geometry) (w c : ℕ) (p : Pen) → w ≢ 0 → place_row d p ≤ place_row d (takes w c (room (ltb d.cols (p.col + w)) p))
place-takes d w c p h = cond-room (ltb d.cols (p.col + w)) refl
  where
    cond-room : (b : Bool) → ltb d.cols (p.col + w) ≡ b → place_row d p ≤ place_row d (takes w c (room b p))
    cond-room true e = omega (arith, place-most d p, place-least d (takes w c (room true p)))
    cond-room false e = omega (arith, place-open d p (omega (arith, ltb-false d.cols (p.col + w) e)), place-least d (takes w c p))

place-put : (d : Geometry) (c : ℕ) (p : Pen) → Good c → 0 < d.cols → place_row d p ≤ place_row d (put_pen d c p)
unfolding put_pen
place-put d c p (g, inl e) pos = rw e (omega (arith, place-most d p, place-least d (newline p)))
place-put d c p (g, inr e) pos = rw e (cond_both (eqb (d.width c) 0) _ _ (λ q. place_row d p ≤ place_row d q) (λ t. omega (arith, place-combine d p.join c p)) (λ t. place-takes d (d.width c) c p (eqb-false (d.width c) 0 t)))

pub place-col : (d : Geometry) (p : Pen) → 0 < d.cols → place_col d p < d.cols
unfolding place_col full
place-col d p h = grind (arith, nat_tests)

pub place-draw : (d : Geometry) (cs : List ℕ) (p : Pen) → AllGood cs → 0 < d.cols → place_row d p ≤ place_row d (draw_pen d cs p)
place-draw d [] p a pos = omega arith
place-draw d (c ∷ cs) p a pos = omega (arith, place-put d c p a.0 pos, place-draw d cs (put_pen d c p) a.1 pos)
