-- One character at the end of the text, written by itself.
use Rattle.std.proofs.Common.{◌≡◌, ℕ, ◌+◌, ◌<◌, Bool, true, false, ltb, leb, ◌≢◌, [], ◌∷◌, ◌++◌, None, Option, sym, refl, ap, ◌∙◌, arith}
use lib.Utf8.{encode}
use Rattle.screen.proofs.Decode.{utf-proof}
use Rattle.screen.proofs.Drawing.{screen-path}
use Rattle.screen.proofs.Heights.{draw-append}
use Rattle.screen.proofs.Translate.{lift-put, pen-path}
use Rattle.screen.specs.Bytes.{feed}
use Rattle.screen.specs.Pages.{Inserts}
use Rattle.screen.specs.Screen.{Geometry, Pen, blank_pen, block, full, lift, newline, place_col, place_row, put_pen, room, takes}
use Rattle.screen.specs.declared.cells.Parser.TheVariants.{Ground}
use Rattle.std.proofs.lemmas.Bool.{le-ltb, leb-true, lt-ltb, ne_eqb}
use Rattle.std.proofs.lemmas.Bool.Decides.{nat_tests}
use Rattle.text.specs.Characters.{is_control}

-- a character with a width, by its cells
put-wide : (d : Geometry) (c : ℕ) (p : Pen) (b : Bool) → is_control c ≡ false → d.width c ≢ 0 → ltb d.cols (p.col + d.width c) ≡ b → put_pen d c p ≡ takes (d.width c) c (room b p)
unfolding put_pen
put-wide d c p b e w h = rw (e, ne_eqb (d.width c) 0 w, h)

abbrev settle : Geometry → Option ℕ → Pen → Pen
settle d o p = record { paper = p.paper; row = place_row d p; col = place_col d p; join = o }

settle-full : (d : Geometry) (p : Pen) → leb d.cols p.col ≡ true → newline p ≡ settle d None p
unfolding place_row place_col full
settle-full d p f = rw f

settle-open : (d : Geometry) (w c : ℕ) (p : Pen) → leb d.cols p.col ≡ false → takes w c p ≡ takes w c (settle d None p)
unfolding place_row place_col full
settle-open d w c p f = rw f

open-col : (d : Geometry) (p : Pen) → leb d.cols p.col ≡ false → place_col d p ≡ p.col
unfolding place_col full
open-col d p f = rw f

-- such a character is put at the place of a pen, and stays on that row
at_place : (d : Geometry) (c : ℕ) (o : Option ℕ) (p : Pen) → is_control c ≡ false → d.width c ≢ 0 → place_col d p + d.width c < d.cols → put_pen d c (settle d o p) ≡ takes (d.width c) c (settle d None p)
at_place d c o p e w h = put-wide d c (settle d o p) false e w (le-ltb d.cols (place_col d p + d.width c) (omega arith))

to-place : (d : Geometry) (c : ℕ) (p : Pen) → is_control c ≡ false → d.width c ≢ 0 → place_col d p + d.width c < d.cols → put_pen d c p ≡ takes (d.width c) c (settle d None p)
to-place d c p e w h = go (leb d.cols p.col) refl
  where
    go : (b : Bool) → leb d.cols p.col ≡ b → put_pen d c p ≡ takes (d.width c) c (settle d None p)
    go true f = put-wide d c p true e w (lt-ltb d.cols (p.col + d.width c) (omega (arith, leb-true d.cols p.col f))) ∙ ap (takes (d.width c) c) (settle-full d p f)
    go false f = put-wide d c p false e w (le-ltb d.cols (p.col + d.width c) (omega (arith, open-col d p f))) ∙ settle-open d (d.width c) c p f

place_of : (d : Geometry) (p : Pen) → p.col < d.cols → (place_row d p ≡ p.row) × (place_col d p ≡ p.col)
unfolding place_row place_col full
place_of d p h = grind (arith, nat_tests)

pub inserts-proof : Inserts
inserts-proof d r up cs c s pg sc e w l =
    let p = block d cs in
    let n = block d (cs ++ (c ∷ [])) in
    let new : n ≡ takes (d.width c) c (settle d None p) = draw-append d cs (c ∷ []) blank_pen ∙ to-place d c p e w l in
    let nr : n.row ≡ place_row d p = ap (λ (x : Pen). x.row) new in
    let nc : n.col ≡ place_col d p + d.width c = ap (λ (x : Pen). x.col) new in
    let pl = place_of d n (omega arith) in
    let from : s.pen ≡ lift r up (settle d s.pen.join p) = pen-path pg.paper pg.line pg.place refl in
    let drawn : put_pen d c s.pen ≡ lift r up n = ap (put_pen d c) from ∙ lift-put r up d c (settle d s.pen.join p) ∙ ap (lift r up) (at_place d c s.pen.join p e w l ∙ sym new) in
    let all : feed d (encode c) s ≡ record { pen = lift r up n; top = s.top; held = s.held; parser = Ground } =
    utf-proof d c s sc (not-escape c e) pg.idle ∙ screen-path drawn (omega (arith, ap (λ (x : Pen). x.row) drawn)) refl refl in
    rw all (record { page = record { idle = refl; paper = refl; line = omega arith; place = omega arith; shown = pg.shown; tall = omega arith }; row = omega arith; col = omega arith; window = refl; held = refl })
  where
    not-escape : (c : ℕ) → is_control c ≡ false → c ≢ 27
    not-escape c e = grind (arith, nat_tests)
