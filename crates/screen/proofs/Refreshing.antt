-- The renderer's bytes put a new page in the place of the old one.
use Rattle.std.proofs.Common.{◌≡◌, ℕ, zero, suc, ◌+◌, ◌-◌, ◌<◌, ◌≤◌, max, Bool, true, false, cond, List, ◌++◌, None, Option, refl, ap, ◌∙◌, arith}
use mathlib.Core.Path.{fun_ext}
use Rattle.screen.proofs.Drawing.{draw-fresh, screen-path}
use Rattle.screen.proofs.Erasing.{cut, cut_below, erased-is, stand}
use Rattle.screen.proofs.Feeding.{feeds-proof}
use Rattle.screen.proofs.Heights.{block-blank, draw-append, place-col, place-draw, place-least}
use Rattle.screen.proofs.Moving.{moves-proof}
use Rattle.screen.proofs.Sequences.{feed-append}
use Rattle.screen.proofs.Translate.{pen-path}
use Rattle.screen.specs.Bytes.{begin, feed, step_in}
use Rattle.screen.specs.Output.{closing, draw_bytes, erase_bytes, move_by, to_column, up_by}
use Rattle.screen.specs.Pages.{OnScreen, Refreshes}
use Rattle.screen.specs.Screen.{Geometry, Paper, Pen, Row, Screen, blank_paper, blank_pen, block, follow, full, lift, over, place_col, place_row, put_pen}
use Rattle.screen.specs.declared.cells.Parser.TheVariants.{Ground}
use Rattle.std.proofs.lemmas.Bool.Decides.{nat_tests}
use Rattle.text.proofs.Spelling.{all-good-parts}
use Rattle.text.proofs.Styling.{styled-good}
use Rattle.text.specs.Texts.{Styled}

pub over-over : (r : ℕ) (up p q : Paper) → over r (over r up p) q ≡ over r up q
unfolding over
over-over r up p q = fun_ext λ k. grind (arith, nat_tests)

pub over-under : (r : ℕ) (up p : Paper) (i : ℕ) → r ≤ i → over r up p i ≡ p (i - r)
unfolding over
over-under r up p i h = grind (arith, nat_tests)

-- a screen by its parts
abbrev pub view : Paper → ℕ → ℕ → Option ℕ → ℕ → Bool → Screen
view q i j o t h = record { pen = record { paper = q; row = i; col = j; join = o }; top = t; held = h; parser = Ground }

pub erase-page : (d : Geometry) (r : ℕ) (up : Paper) (cs : List ℕ) (i j : ℕ) (s : Screen) → d.rows ≤ 9999 → OnScreen d r up cs i j s → i ≤ place_row d (block d cs) → feed d (erase_bytes (place_row d (block d cs) - i) (place_row d (block d cs))) s ≡ stand (cut r up) r s
erase-page d r up cs i j s high pg h =
    let n = place_row d (block d cs) in
    let q = (block d cs).paper in
    erased-is d s r (n - i) n pg.idle pg.shown (omega arith) pg.tall (omega arith)
    (λ a b l. ap (λ (x : Paper). x a b) pg.paper ∙ ap (λ (x : Row). x b) (over-under r up q a (omega arith)) ∙ block-blank d cs (a - r) b (omega (arith, place-least d (block d cs))))
    ∙ ap (λ x. stand x r s) (ap (cut r) pg.paper ∙ over-over r up q blank_paper)

pub draw-page : (d : Geometry) (r : ℕ) (up : Paper) (bs ds : List ℕ) (s : Screen) → s.top ≤ r → r < s.top + d.rows → Styled bs ds → feed d bs (stand (cut r up) r s) ≡ follow d (lift r up (block d ds)) s
draw-page d r up bs ds s h k st =
    let t = stand (cut r up) r s in
    feeds-proof d bs ds t st refl
    ∙ draw-fresh d ds t (record { sound = record { idle = refl; above = h; inside = k; fits = omega arith }; start = refl; apart = refl; blanks = cut_below r up })
    ∙ ap (λ p. follow d p s) (pen-path (over-over r up blank_paper (block d ds).paper) refl refl refl)

close-page : (d : Geometry) (r : ℕ) (up : Paper) (p : Pen) (s : Screen) → (o : Option ℕ) × (feed d (closing (full d p)) (follow d (lift r up p) s) ≡ view (over r up p.paper) (r + place_row d p) (place_col d p) o (max s.top (suc (r + place_row d p) - d.rows)) s.held)
unfolding place_row place_col step_in begin put_pen
close-page d r up p s = go (full d p)
  where
    go : (b : Bool) → (o : Option ℕ) × (feed d (closing b) (follow d (lift r up p) s) ≡ view (over r up p.paper) (r + cond b (suc p.row) p.row) (cond b 0 p.col) o (max s.top (suc (r + cond b (suc p.row) p.row) - d.rows)) s.held)
    go true = (None, screen-path (pen-path refl (omega arith) refl refl) (omega arith) refl refl)
    go false = (p.join, refl)

up-page : (d : Geometry) (q : Paper) (k i j : ℕ) (o : Option ℕ) (t : ℕ) (h : Bool) → t + k ≤ i → i < t + d.rows → j < d.cols → d.rows ≤ 9999 → (w : Option ℕ) × (feed d (up_by k) (view q i j o t h) ≡ view q (i - k) j w t h)
up-page d q zero i j o t h a b c e = (o, ap (λ x. view q x j o t h) (omega arith))
up-page d q (suc k) i j o t h a b c e = (
  None,
  (moves-proof d (suc k) (view q i j o t h) (record { idle = refl; above = omega arith; inside = b; fits = omega arith }) (omega arith) (omega arith)).0 a
      ∙ ap (λ x. view q (i - suc k) x None t h) (omega arith),
)

column-page : (d : Geometry) (q : Paper) (i j k : ℕ) (o : Option ℕ) (t : ℕ) (h : Bool) → t ≤ i → i < t + d.rows → k < d.cols → d.cols ≤ 9999 → feed d (to_column k) (view q i j o t h) ≡ view q i k None t h
unfolding step_in begin put_pen
column-page d q i j zero o t h a b c e = screen-path refl (omega arith) refl refl
column-page d q i j (suc k) o t h a b c e =
    ap (λ x. feed d (move_by 67 (suc k)) (view q i 0 None x h)) (omega arith)
    ∙ (moves-proof d (suc k) (view q i 0 None t h) (record { idle = refl; above = a; inside = b; fits = omega arith }) (omega arith) (omega arith)).2 (omega arith)
    ∙ ap (λ x. view q i x None t h) (omega arith)

-- the place of a text's front is not below that of the whole
pub place-front : (d : Geometry) (bs es fs : List ℕ) → 0 < d.cols → Styled bs (es ++ fs) → place_row d (block d es) ≤ place_row d (block d (es ++ fs))
place-front d bs es fs pos st = rw (draw-append d es fs blank_pen) (place-draw d fs (block d es) (all-good-parts es fs (styled-good st)).1 pos)

-- a block drawn from the start of a row below which nothing stands
pub drawn-is : (d : Geometry) (r : ℕ) (up : Paper) (s : Screen) (bs es fs : List ℕ)
    → 0 < d.cols → d.cols ≤ 9999 → d.rows ≤ 9999
    → s.top ≤ r → r < s.top + d.rows → Styled bs (es ++ fs) → place_row d (block d (es ++ fs)) < d.rows
    → feed d (draw_bytes d bs (es ++ fs) es) (stand (cut r up) r s)
    ≡ view (over r up (block d (es ++ fs)).paper) (r + place_row d (block d es)) (place_col d (block d es)) None (max s.top (suc (r + place_row d (block d (es ++ fs))) - d.rows)) s.held
drawn-is d r up s bs es fs pos wide high above inside st fits =
    let le = place-front d bs es fs pos st in
    feed-append d bs tail (stand (cut r up) r s)
    ∙ ap (feed d tail) (draw-page d r up bs ds s above inside st)
    ∙ feed-append d (closing (full d p)) _ (follow d (lift r up p) s)
    ∙ ap (feed d (up_by (a - b) ++ to_column c)) close.1
    ∙ feed-append d (up_by (a - b)) (to_column c) _
    ∙ ap (feed d (to_column c)) (upped (omega arith)).1
    ∙ column-page d q (r + a - (a - b)) (place_col d p) c (upped (omega arith)).0 top s.held (omega arith) (omega arith) (place-col d (block d es) pos) wide
    ∙ ap (λ x. view q x c None top s.held) (omega arith)
  where
    ds : List ℕ
    ds = es ++ fs

    p : Pen
    p = block d ds

    a : ℕ
    a = place_row d p

    b : ℕ
    b = place_row d (block d es)

    c : ℕ
    c = place_col d (block d es)

    q : Paper
    q = over r up p.paper

    top : ℕ
    top = max s.top (suc (r + a) - d.rows)

    tail : List ℕ
    tail = closing (full d p) ++ (up_by (a - b) ++ to_column c)

    close : (o : Option ℕ) × (feed d (closing (full d p)) (follow d (lift r up p) s) ≡ view q (r + a) (place_col d p) o top s.held)
    close = close-page d r up p s

    upped : top + (a - b) ≤ r + a → (w : Option ℕ) × (feed d (up_by (a - b)) (view q (r + a) (place_col d p) close.0 top s.held) ≡ view q (r + a - (a - b)) (place_col d p) w top s.held)
    upped h = up-page d q (a - b) (r + a) (place_col d p) close.0 top s.held h (omega arith) (place-col d p pos) high

pub refreshes-proof : Refreshes
refreshes-proof d r up cs i j s bs es fs pos wide high pg h st fits =
    let le = place-front d bs es fs pos st in
    let n = place_row d (block d cs) in
    rw (feed-append d (erase_bytes (n - i) n) (draw_bytes d bs (es ++ fs) es) s
    ∙ ap (feed d (draw_bytes d bs (es ++ fs) es)) (erase-page d r up cs i j s high pg h)
    ∙ drawn-is d r up s bs es fs pos wide high pg.shown (omega arith) st fits)
    (record { page = record { idle = refl; paper = refl; line = refl; place = refl; shown = omega arith; tall = omega arith }; window = refl; held = refl })
