-- The bytes that erase a block.
use Rattle.std.proofs.Common.{◌≡◌, ℕ, zero, suc, ◌+◌, ◌-◌, ◌*◌, ◌/◌, ◌%◌, ◌^◌, ◌<◌, ◌≤◌, min, max, true, List, [], ◌∷◌, ◌++◌, None, decimal, Option, sym, refl, ap, ◌∙◌, arith}
use mathlib.Core.Path.{fun_ext}
use Rattle.screen.proofs.Drawing.{over-blank, over-above, screen-path}
use Rattle.screen.proofs.Sequences.{feed-append, feed-sequence, ground-is, params}
use Rattle.screen.proofs.Translate.{pen-path}
use Rattle.screen.specs.Bytes.{act, at, begin, bottom, column, feed, finish, into, is_digit, move, parameter, step, step_in, with_pen}
use Rattle.screen.specs.Laws.{Erases}
use Rattle.screen.specs.Output.{down_by, erase_bytes, move_by, rows_up}
use Rattle.screen.specs.Screen.{Geometry, Paper, Row, Screen, blank_paper, blank_row, on_row, over, put_pen, wipe_from}
use Rattle.screen.specs.declared.cells.Cell.TheVariants.{Blank}
use Rattle.screen.specs.declared.cells.Parameters.{Parameters}
use Rattle.screen.specs.declared.cells.Parameters.TheVariants.{Bare, Number}
use Rattle.screen.specs.declared.cells.Parser.TheVariants.{Ground, Sequence}
use Rattle.std.proofs.lemmas.Fmt.{decimal_by_steps}
use Rattle.std.proofs.lemmas.Bool.{and_from, and_parts, cond-true, le-leb}
use Rattle.std.proofs.lemmas.Bool.Decides.{nat_tests}
use Rattle.text.specs.Texts.{is_plain, plain}

-- the screen with another paper, at the start of a row
abbrev pub stand : Paper → ℕ → Screen → Screen
stand p i s = with_pen (record { paper = p; row = i; col = 0; join = None }) s

abbrev pub cut : ℕ → Paper → Paper
cut r p = over r p blank_paper

pub wipe-all : (f : Row) → wipe_from 0 f ≡ blank_row
unfolding wipe_from
wipe-all f = fun_ext λ j. grind (arith, nat_tests)

cut-more : (i : ℕ) (p : Paper) → on_row i (wipe_from 0) (cut (suc i) p) ≡ cut i p
unfolding on_row over
cut-more i p = fun_ext λ k. grind (arith, nat_tests, wipe-all)

wipe-line : (d : Geometry) (s : Screen) → s.pen.row < s.top + d.rows → feed d (13 ∷ 27 ∷ 91 ∷ 75 ∷ []) (into Ground s) ≡ stand (on_row s.pen.row (wipe_from 0) s.pen.paper) s.pen.row s
unfolding step_in begin finish act move put_pen
wipe-line d s h = screen-path (pen-path (ap (λ c. on_row s.pen.row (wipe_from c) s.pen.paper) (omega arith)) refl (omega arith) refl) (omega arith) refl refl

go-up : (d : Geometry) (s : Screen) (p : Paper) (i : ℕ) → feed d (27 ∷ 91 ∷ 65 ∷ []) (stand p i s) ≡ stand p (max s.top (i - 1)) s
unfolding step_in begin finish act move put_pen
go-up d s p i = screen-path (pen-path refl refl (omega arith) refl) refl refl refl

wipe-cut : (d : Geometry) (i : ℕ) (p : Paper) (s : Screen) → i < s.top + d.rows → feed d (13 ∷ 27 ∷ 91 ∷ 75 ∷ []) (stand (cut (suc i) p) i s) ≡ stand (cut i p) i s
wipe-cut d i p s k = wipe-line d (stand (cut (suc i) p) i s) k ∙ ap (λ q. stand q i s) (cut-more i p)

rows-up : (d : Geometry) (n i : ℕ) (p : Paper) (s : Screen) → s.top + n ≤ i → i < s.top + d.rows → feed d (rows_up n) (stand (cut (suc i) p) i s) ≡ stand (cut (i - n) p) (i - n) s
rows-up d zero i p s h k = wipe-cut d i p s k ∙ ap (λ m. stand (cut m p) m s) (omega arith)
rows-up d (suc n) zero p s h k = absurd (omega arith)
rows-up d (suc n) (suc i) p s h k =
    ap (λ t. feed d (rows_up n) (feed d (27 ∷ 91 ∷ 65 ∷ []) t)) (wipe-cut d (suc i) p s k)
    ∙ ap (feed d (rows_up n)) (go-up d s (cut (suc i) p) (suc i) ∙ ap (λ m. stand (cut (suc i) p) m s) (omega arith))
    ∙ rows-up d n i p s (omega arith) (omega arith)
    ∙ ap (λ m. stand (cut m p) m s) (omega arith)

-- numbers, written and read
abbrev Reads : ℕ → List ℕ → Type 0
Reads n bs = (plain bs ≡ true) × (n ≤ 9999 → params Bare bs ≡ Number n)

plain_push : (bs : List ℕ) (b : ℕ) → plain bs ≡ true → is_plain b ≡ true → plain (bs ++ (b ∷ [])) ≡ true
plain_push [] b p e = and_from _ _ e refl
plain_push (x ∷ xs) b p e = let h = and_parts (is_plain x) (plain xs) p in and_from _ _ h.0 (plain_push xs b h.1 e)

params-push : (p : Parameters) (bs : List ℕ) (b : ℕ) → params p (bs ++ (b ∷ [])) ≡ parameter (params p bs) b
params-push p [] b = refl
params-push p (x ∷ xs) b = params-push (parameter p x) xs b

digit-plain : (n : ℕ) → n < 10 → is_plain (48 + n) ≡ true
digit-plain n h = grind (arith, nat_tests)

first-digit : (n : ℕ) → n < 10 → parameter Bare (48 + n) ≡ Number n
first-digit n h = cond-true (is_digit (48 + n)) _ _ (and_from _ _ (le-leb 48 (48 + n) (omega arith)) (le-leb (48 + n) 57 (omega arith))) ∙ ap Number (omega arith)

next-digit : (m n : ℕ) → n < 10 → 10 * m + n ≤ 9999 → parameter (Number m) (48 + n) ≡ Number (10 * m + n)
next-digit m n h k = cond-true (is_digit (48 + n)) _ _ (and_from _ _ (le-leb 48 (48 + n) (omega arith)) (le-leb (48 + n) 57 (omega arith))) ∙ ap Number (omega arith)

reads-decimal : (n : ℕ) → n < 2 ^ 64 → Reads n (decimal n)
reads-decimal = decimal_by_steps Reads one more
  where
    one : (n : ℕ) → n < 10 → Reads n ((48 + n) ∷ [])
    one n h = (and_from _ _ (digit-plain n h) refl, λ k. first-digit n h)

    more : (n : ℕ) (ds : List ℕ) → 10 ≤ n → Reads (n / 10) ds → Reads n (ds ++ ((48 + n % 10) ∷ []))
    more n ds h r = (
      plain_push ds (48 + n % 10) r.0 (digit-plain (n % 10) (omega arith)),
      λ k. params-push Bare ds (48 + n % 10) ∙ ap (λ p. parameter p (48 + n % 10)) (r.1 (omega arith)) ∙ next-digit (n / 10) (n % 10) (omega arith) (omega arith) ∙ ap Number (omega arith),
    )

pub plain-decimal : (n : ℕ) → n < 2 ^ 64 → plain (decimal n) ≡ true
plain-decimal n h = (reads-decimal n h).0

pub params-decimal : (n : ℕ) → n ≤ 9999 → params Bare (decimal n) ≡ Number n
params-decimal n k = (reads-decimal n (omega arith)).1 k

-- a sequence with a number does what its final byte does with that number
pub feed-number : (d : Geometry) (b n : ℕ) (s : Screen) → n ≤ 9999 → feed d (move_by b n) (into Ground s) ≡ step d b (into (Sequence (Number n)) s)
feed-number d b n s k = feed-sequence d (decimal n) b s (plain-decimal n (omega arith)) ∙ ap (λ p. step d b (into (Sequence p) s)) (params-decimal n k)

move_down : (d : Geometry) (n : ℕ) (s : Screen) → 1 ≤ n → n ≤ 9999 → feed d (move_by 66 n) (into Ground s) ≡ at (min (bottom d s) (s.pen.row + n)) (column d s) s
unfolding step_in finish act move
move_down d n s h k = feed-number d 66 n s k ∙ ap (λ m. at (min (bottom d s) (s.pen.row + m)) (column d s) s) (omega arith)

abbrev spot : ℕ → ℕ → Option ℕ → Screen → Screen
spot i j o s = with_pen (record { paper = s.pen.paper; row = i; col = j; join = o }) s

lands : (d : Geometry) (k : ℕ) (s : Screen) → k ≤ 9999 → s.pen.row + k < s.top + d.rows → (j : ℕ) × (o : Option ℕ) × (feed d (down_by k) (into Ground s) ≡ spot (s.pen.row + k) j o s)
lands d zero s h l = (s.pen.col, s.pen.join, ap (λ i. spot i s.pen.col s.pen.join s) (omega arith))
lands d (suc k) s h l = (column d s, None, move_down d (suc k) s (omega arith) h ∙ ap (λ i. spot i (column d s) None s) (omega arith))

rows-from : (d : Geometry) (n i j : ℕ) (o : Option ℕ) (s : Screen) → feed d (rows_up n) (spot i j o s) ≡ feed d (rows_up n) (stand s.pen.paper i s)
unfolding step_in begin put_pen
rows-from d zero i j o s = refl
rows-from d (suc n) i j o s = refl

pub erased-is : (d : Geometry) (s : Screen) (b k n : ℕ) → s.parser ≡ Ground → s.top ≤ b → s.pen.row + k ≡ b + n → b + n < s.top + d.rows → k ≤ 9999 → ((i j : ℕ) → b + n < i → s.pen.paper i j ≡ Blank) → feed d (erase_bytes k n) s ≡ stand (cut b s.pen.paper) b s
erased-is d s b k n g t e l m w =
    let p = s.pen.paper in
    let a = lands d k s m (omega arith) in
    feed-append d (down_by k) (rows_up n) s
    ∙ ap (λ x. feed d (rows_up n) (feed d (down_by k) x)) (sym (ground-is s g))
    ∙ ap (feed d (rows_up n)) a.2
    ∙ rows-from d n (s.pen.row + k) a.0 a.1 s
    ∙ ap (λ i. feed d (rows_up n) (stand p i s)) e
    ∙ ap (λ q. feed d (rows_up n) (stand q (b + n) s)) (sym (over-blank (suc (b + n)) p w))
    ∙ rows-up d n (b + n) p s (omega arith) l
    ∙ ap (λ m. stand (cut m p) m s) (omega arith)

pub cut_below : (b : ℕ) (p : Paper) (i j : ℕ) → b ≤ i → cut b p i j ≡ Blank
unfolding over
cut_below b p i j h = grind (arith, nat_tests)

pub erases-proof : Erases
erases-proof d s b k n g t e l m w = rw (erased-is d s b k n g.idle t e l m w) (record {
  fresh = record { sound = record { idle = refl; above = t; inside = omega arith; fits = omega arith }; start = refl; apart = refl; blanks = cut_below b s.pen.paper };
  line = refl;
  upper = λ i j h. ap (λ (f : Row). f j) (over-above b s.pen.paper blank_paper i h);
  window = refl;
  held = refl;
})
