-- Where a text ends, counted without any cell.
use Rattle.std.proofs.Common.{◌≡◌, ℕ, suc, ◌+◌, ◌≤◌, Bool, true, false, cond, eqb, ltb, leb, ◌≢◌, List, [], ◌∷◌, Some, None, Option, sym, refl, ap, ◌∙◌, subst, inl, inr, le_trans, arith}
use Rattle.layout.proofs.GoodTexts.{behind-none, measured-good, step_place-col}
use Rattle.layout.specs.Drawing.{step_place, walk_place}
use Rattle.layout.specs.Measuring.{at_end, behind, next_row}
use Rattle.layout.specs.declared.layout.Position.{Position}
use Rattle.screen.proofs.Drawing.{draw-is}
use Rattle.screen.proofs.Feeding.{feeds-proof}
use Rattle.screen.specs.Places.{Places, place_of, spot_of, top_left}
use Rattle.screen.specs.Screen.{Geometry, Pen, Screen, blank_pen, blank_screen, block, combine, draw_pen, full, newline, place_col, place_row, put_pen, room, takes}
use Rattle.std.proofs.lemmas.Bool.{cond_both, eqb-false, eqb-true, ne_eqb}
use Rattle.std.proofs.lemmas.Bool.Decides.{nat_tests}
use Rattle.text.proofs.Styling.{styled-good}
use Rattle.text.specs.Characters.{AllGood, Good, is_control}

combine-spot : (o : Option ℕ) (c : ℕ) (p : Pen) → spot_of (combine o c p) ≡ spot_of p
combine-spot None c p = refl
combine-spot (Some j) c p = refl

room-spot : (b : Bool) (n c : ℕ) (p : Pen) → cond b (record { col = n; row = p.row + 1 }) (record { col = p.col + n; row = p.row }) ≡ spot_of (takes n c (room b p))
room-spot true n c p = λ i. record { col = zero-plus i; row = one_more i }
  where
    zero-plus : n ≡ 0 + n
    zero-plus = omega arith

    one_more : p.row + 1 ≡ suc p.row
    one_more = omega arith
room-spot false n c p = refl

next-spot : (p : Pen) → next_row (spot_of p) ≡ spot_of (newline p)
next-spot p = λ i. record { col = 0; row = one_more i }
  where
    one_more : p.row + 1 ≡ suc p.row
    one_more = omega arith

pub put-spot : (d : Geometry) (c : ℕ) (p : Pen) → Good c → p.col ≤ d.cols → step_place d.cols d.width c (spot_of p) ≡ spot_of (put_pen d c p)
unfolding put_pen
put-spot d c p (g, inl e) h = rw e (next-spot p)
put-spot d c p (g, inr e) h =
    rw (e, ne_eqb c 10 (not_line c e))
    (cond_both (eqb (d.width c) 0) _ _ (λ q. behind d.cols (d.width c) (spot_of p) ≡ spot_of q)
    (λ t. let z = eqb-true (d.width c) 0 t in ap (λ n. behind d.cols n (spot_of p)) z ∙ behind-none d.cols (spot_of p) h ∙ sym (combine-spot p.join c p))
    (λ t. room-spot (ltb d.cols (p.col + d.width c)) (d.width c) c p))
  where
    not_line : (c : ℕ) → is_control c ≡ false → c ≢ 10
    not_line c e = grind (arith, nat_tests)

spot-col : (d : Geometry) (c : ℕ) (p : Pen) → Good c → d.width c ≤ d.cols → p.col ≤ d.cols → (put_pen d c p).col ≤ d.cols
spot-col d c p g w h = subst (λ (q : Position). q.col ≤ d.cols) (put-spot d c p g h) (step_place-col d.cols d.width c (spot_of p) w)

pub draw-spot : (d : Geometry) → ((c : ℕ) → d.width c ≤ d.cols) → (cs : List ℕ) (p : Pen) → AllGood cs → p.col ≤ d.cols → walk_place d.cols d.width cs (spot_of p) ≡ spot_of (draw_pen d cs p)
draw-spot d w [] p a h = refl
draw-spot d w (c ∷ cs) p a h = ap (walk_place d.cols d.width cs) (put-spot d c p a.0 h) ∙ draw-spot d w cs (put_pen d c p) a.1 (spot-col d c p a.0 (w c) h)

-- drawing stays within the row
pub draw-col : (d : Geometry) → ((c : ℕ) → d.width c ≤ d.cols) → (cs : List ℕ) (p : Pen) → AllGood cs → p.col ≤ d.cols → (draw_pen d cs p).col ≤ d.cols
draw-col d w [] p a h = h
draw-col d w (c ∷ cs) p a h = draw-col d w cs (put_pen d c p) a.1 (spot-col d c p a.0 (w c) h)

pub end-place : (d : Geometry) (p : Pen) → p.col ≤ d.cols → at_end d.cols (spot_of p) ≡ place_of d p
unfolding place_row place_col full
end-place d p h = go (eqb p.col d.cols) refl
  where
    full_is : (b : Bool) → eqb p.col d.cols ≡ b → leb d.cols p.col ≡ b
    full_is true e = let z = eqb-true p.col d.cols e in grind (arith, nat_tests)
    full_is false e = let z = eqb-false p.col d.cols e in grind (arith, nat_tests)

    one_more : p.row + 1 ≡ suc p.row
    one_more = omega arith

    go : (b : Bool) → eqb p.col d.cols ≡ b → cond (eqb p.col d.cols) (next_row (spot_of p)) (spot_of p) ≡ record { col = cond (leb d.cols p.col) 0 p.col; row = cond (leb d.cols p.col) (suc p.row) p.row }
    go true e = rw (e, full_is true e) (λ i. record { col = 0; row = one_more i })
    go false e = rw (e, full_is false e)

-- a good text's measured end is the place of its block
pub block-place : (d : Geometry) → ((c : ℕ) → d.width c ≤ d.cols) → (cs : List ℕ) → AllGood cs → at_end d.cols (walk_place d.cols d.width cs top_left) ≡ place_of d (block d cs)
block-place d w cs g = ap (at_end d.cols) (draw-spot d w cs blank_pen g (omega arith)) ∙ end-place d (block d cs) (draw-col d w cs blank_pen g (omega arith))

pub places-proof : Places
places-proof d broad tall w tab bs cs st =
    let g = styled-good st in
    let v : (c : ℕ) → d.width c ≤ d.cols = λ c. le_trans (w c) broad in
    measured-good d.width d.cols tab v cs top_left g
    ∙ block-place d v cs g
    ∙ ap (place_of d) (sym (ap (λ (s : Screen). s.pen) (feeds-proof d bs cs blank_screen st refl ∙ draw-is d cs blank_screen refl (omega arith))))
