-- Whatever bytes a screen takes, its cursor stays in the window, nothing stands below the window, and its rows stay formed.
use Rattle.std.proofs.Common.{◌≡◌, ℕ, suc, ◌+◌, ◌<◌, ◌≤◌, max, Bool, true, false, cond, ◌&&◌, eqb, ltb, leb, List, [], ◌∷◌, Some, None, Option, refl, ◌∙◌, arith}
use Rattle.screen.proofs.Drawing.{put-down}
use Rattle.screen.proofs.Forming.{formed-blank, formed-mark, formed-placed, formed-wipe}
use Rattle.screen.specs.Bytes.{act, at, begin, bottom, column, continue, dropped, feed, finish, inked, into, join_after, move, step, step_in, wiped, within}
use Rattle.screen.specs.Laws.{AllFormed, AlwaysKept, Formed, Kept}
use Rattle.screen.specs.Screen.{Geometry, Paper, Pen, Row, Screen, blank_row, blank_screen, combine, mark_at, on_row, placed, put, put_pen, room, rows_from, takes, wipe_from}
use Rattle.screen.specs.declared.cells.Parameters.{Parameters}
use Rattle.screen.specs.declared.cells.Parameters.TheVariants.{Bare, Mode, Number, Numbers, Other}
use Rattle.screen.specs.declared.cells.Parser.{Parser}
use Rattle.screen.specs.declared.cells.Parser.TheVariants.{Character, Escape, Ground, Sequence}
use Rattle.screen.specs.declared.cells.Partial.{Partial}
use Rattle.std.proofs.lemmas.Bool.{and_parts, cond_both, eqb-false, eqb-true, leb-true, ltb-false}
use Rattle.text.specs.Characters.{is_control}

-- a row other than r
pub row_other : (r : ℕ) (f : Row → Row) (p : Paper) (i j : ℕ) → r < i → on_row r f p i j ≡ p i j
unfolding on_row
row_other r f p i j h = cond_both (eqb i r) _ _ (λ (w : Row). w j ≡ p i j) (λ t. absurd (omega (arith, eqb-true i r t))) (λ t. refl)

-- a property of rows that the changes of a row keep: that it is formed, or nothing at all
pub record Lasting (d : Geometry) (F : Row → Type 0) : Type 0 where
  pub blank : F blank_row
  pub wipe : (a : ℕ) (f : Row) → F f → F (wipe_from a f)
  pub mark : (m a : ℕ) (f : Row) → d.width m ≡ 0 → F f → F (mark_at m a f)
  pub place : (c a : ℕ) (f : Row) → 0 < d.width c → d.width c ≤ 2 → a + d.width c ≤ d.cols → F f → F (placed (d.width c) c a f)

pub formed-lasting : (d : Geometry) → Lasting d (Formed d)
formed-lasting d = record { blank = formed-blank d; wipe = formed-wipe d; mark = formed-mark d; place = formed-placed d }

pub any-lasting : (d : Geometry) → Lasting d (λ f. Unit {0})
any-lasting d = record { blank = tt; wipe = λ a f h. h; mark = λ m a f e h. h; place = λ c a f x y z h. h }

-- every row of the paper has it
Rows : (Row → Type 0) → Paper → Type 0
Rows F p = (i : ℕ) → F (p i)

-- what a screen keeps, with the rows' property
pub record Held (d : Geometry) (F : Row → Type 0) (s : Screen) : Type 0 where
  pub kept : Kept d s
  pub rows : (i : ℕ) → F (s.pen.paper i)

module _ (d : Geometry) (F : Row → Type 0) (lasts : Lasting d F) (tall : 0 < d.rows) (broad : 2 ≤ d.cols) (w : (c : ℕ) → d.width c ≤ 2) where
  rows_on_row : (r : ℕ) (f : Row → Row) (p : Paper) → ((g : Row) → F g → F (f g)) → Rows F p → Rows F (on_row r f p)
  unfolding Rows on_row
  rows_on_row r f p h x i = cond_both (eqb i r) (f (p i)) (p i) F (λ t. h (p i) (x i)) (λ t. x i)

  rows-from : (a b : ℕ) (p : Paper) → Rows F p → Rows F (rows_from a b p)
  unfolding Rows rows_from
  rows-from a b p x i = cond_both (leb a i && leb i b) blank_row (p i) F (λ t. lasts.blank) (λ t. x i)

  -- what a character leaves: the column within the row, the rows below the cursor as they were, and the rows' property
  record Fine (p q : Pen) : Type 0 where
    fit : q.col ≤ d.cols
    far : (i j : ℕ) → q.row < i → q.paper i j ≡ p.paper i j
    form : Rows F p.paper → Rows F q.paper

  fine-cond : (b : Bool) (p x y : Pen) → Fine p x → Fine p y → Fine p (cond b x y)
  fine-cond true p x y h k = h
  fine-cond false p x y h k = k

  fine-still : (j : ℕ) (o : Option ℕ) (i : ℕ) (p : Pen) → j ≤ d.cols → Fine p (record { paper = p.paper; row = i; col = j; join = o })
  fine-still j o i p h = record { fit = h; far = λ i j l. refl; form = λ x. x }

  fine-combine : (o : Option ℕ) (c : ℕ) (p : Pen) → d.width c ≡ 0 → p.col ≤ d.cols → Fine p (combine o c p)
  fine-combine None c p e h = record { fit = h; far = λ i j l. refl; form = λ x. x }
  fine-combine (Some k) c p e h = record { fit = h; far = λ i j l. row_other p.row (mark_at c k) p.paper i j l; form = rows_on_row p.row (mark_at c k) p.paper (λ g. lasts.mark c k g e) }

  fine-takes : (c : ℕ) (p : Pen) → 0 < d.width c → p.col ≤ d.cols → Fine p (takes (d.width c) c (room (ltb d.cols (p.col + d.width c)) p))
  fine-takes c p pos k = go (ltb d.cols (p.col + d.width c)) refl
    where
      go : (b : Bool) → ltb d.cols (p.col + d.width c) ≡ b → Fine p (takes (d.width c) c (room b p))
      go true e = let two = w c in record { fit = omega arith; far = λ i j l. row_other (suc p.row) (placed (d.width c) c 0) p.paper i j l; form = rows_on_row (suc p.row) (placed (d.width c) c 0) p.paper (λ g. lasts.place c 0 g pos two (omega arith)) }
      go false e = let l = ltb-false d.cols (p.col + d.width c) e in record { fit = l; far = λ i j m. row_other p.row (placed (d.width c) c p.col) p.paper i j m; form = rows_on_row p.row (placed (d.width c) c p.col) p.paper (λ g. lasts.place c p.col g pos (w c) l) }

  fine-put : (c : ℕ) (p : Pen) → p.col ≤ d.cols → Fine p (put_pen d c p)
  unfolding put_pen
  fine-put c p k =
      fine-cond (is_control c) p _ _ (fine-cond (eqb c 10) p _ _ (fine-still 0 None (suc p.row) p (omega arith)) (fine-cond (eqb c 13) p _ _ (fine-still 0 None p.row p (omega arith)) (fine-still p.col None p.row p k)))
      (cond_both (eqb (d.width c) 0) _ _ (Fine p) (λ t. fine-combine p.join c p (eqb-true (d.width c) 0 t) k) (λ t. fine-takes c p (omega (arith, eqb-false (d.width c) 0 t)) k))

  held-cond : (b : Bool) (x y : Screen) → Held d F x → Held d F y → Held d F (cond b x y)
  held-cond true x y h k = h
  held-cond false x y h k = k

  -- another parser state, mark or joining
  held_same : (h : Bool) (m : Parser) (o : Option ℕ) (s : Screen) → Held d F s → Held d F (record { pen = record { paper = s.pen.paper; row = s.pen.row; col = s.pen.col; join = o }; top = s.top; held = h; parser = m })
  held_same h m o s k = record { kept = record { above = k.kept.above; inside = k.kept.inside; fits = k.kept.fits; below = k.kept.below }; rows = k.rows }

  held-into : (m : Parser) (s : Screen) → Held d F s → Held d F (into m s)
  held-into m s k = held_same s.held m s.pen.join s k

  held-dropped : (s : Screen) → Held d F s → Held d F (dropped s)
  held-dropped s k = held_same s.held Ground None s k

  held-put : (c : ℕ) (s : Screen) → Held d F s → Held d F (put d c s)
  unfolding Rows
  held-put c s k =
      let f = fine-put c s.pen k.kept.fits in
      let m = put-down d c s.pen in
      record { kept = record { above = omega arith; inside = omega arith; fits = f.fit; below = λ i j l. f.far i j (omega arith) ∙ k.kept.below i j (omega arith) }; rows = f.form k.rows }

  held_at : (i j : ℕ) (s : Screen) → Held d F s → s.top ≤ i → i < s.top + d.rows → j ≤ d.cols → Held d F (at i j s)
  held_at i j s k a b c = record { kept = record { above = a; inside = b; fits = c; below = k.kept.below }; rows = k.rows }

  held-begin : (b : ℕ) (s : Screen) → Held d F s → Held d F (begin d b s)
  unfolding begin
  held-begin b s k =
      held-cond (ltb b 128) _ _ (held-put b s k)
      (held-cond (within 194 223 b) _ _ (held-into _ s k)
      (held-cond (eqb b 224) _ _ (held-into _ s k)
      (held-cond (eqb b 237) _ _ (held-into _ s k)
      (held-cond (within 225 239 b) _ _ (held-into _ s k)
      (held-cond (eqb b 240) _ _ (held-into _ s k)
      (held-cond (within 241 243 b) _ _ (held-into _ s k)
      (held-cond (eqb b 244) _ _ (held-into _ s k) (held-dropped s k))))))))

  held-paper : (q : Paper) (s : Screen) → Held d F s → ((i k : ℕ) → s.top + d.rows ≤ i → q i k ≡ s.pen.paper i k) → Rows F q → Held d F (inked q s)
  unfolding Rows
  held-paper q s k h f = record { kept = record { above = k.kept.above; inside = k.kept.inside; fits = k.kept.fits; below = λ a c m. h a c m ∙ k.kept.below a c m }; rows = f }

  rows_other : (a b : ℕ) (p : Paper) (i j : ℕ) → b < i → rows_from a b p i j ≡ p i j
  unfolding rows_from
  rows_other a b p i j h = cond_both (leb a i && leb i b) _ _ (λ (f : Row). f j ≡ p i j) (λ t. absurd (omega (arith, leb-true i b (and_parts (leb a i) (leb i b) t).1))) (λ t. refl)

  rows-wiped : (s : Screen) → Held d F s → Rows F (wiped d s)
  unfolding Rows
  rows-wiped s k = rows_on_row s.pen.row (wipe_from (column d s)) s.pen.paper (lasts.wipe (column d s)) k.rows

  held_move : (b n : ℕ) (s : Screen) → Held d F s → Held d F (move d b n s)
  unfolding move
  held_move b n s k =
      let c = k.kept in
      held-cond (eqb b 65) _ _ (held_at _ _ s k (omega arith) (omega arith) (omega arith))
      (held-cond (eqb b 66) _ _ (held_at _ _ s k (omega arith) (omega arith) (omega arith))
      (held-cond (eqb b 67) _ _ (held_at _ _ s k (omega arith) (omega arith) (omega arith))
      (held-cond (eqb b 68) _ _ (held_at _ _ s k (omega arith) (omega arith) (omega arith)) (held-dropped s k))))

  held-act : (p : Parameters) (b : ℕ) (s : Screen) → Held d F s → Held d F (act d p b s)
  unfolding act
  held-act Bare b s k =
      let c = k.kept in
      held-cond (eqb b 72) _ _ (held_at s.top 0 s k (omega arith) (omega arith) (omega arith))
      (held-cond (eqb b 74) _ _ (held-paper _ s k (λ i j m. rows_other (suc s.pen.row) (bottom d s) (wiped d s) i j (omega arith) ∙ row_other s.pen.row (wipe_from (column d s)) s.pen.paper i j (omega arith)) (rows-from (suc s.pen.row) (bottom d s) (wiped d s) (rows-wiped s k)))
      (held-cond (eqb b 75) _ _ (held-paper (wiped d s) s k (λ i j m. row_other s.pen.row (wipe_from (column d s)) s.pen.paper i j (omega arith)) (rows-wiped s k)) (held_move b 1 s k)))
  held-act (Number n) b s k = held_move b (max 1 n) s k
  held-act (Numbers n) b s k = held_move b (max 1 n) s k
  held-act (Mode n) b s k = held-cond (eqb n 5) _ _ (held-cond (eqb b 104) _ _ (held_same true Ground None s k) (held-cond (eqb b 108) _ _ (held_same false Ground None s k) (held-dropped s k))) (held-dropped s k)
  held-act Other b s k = held-dropped s k

  held-finish : (p : Parameters) (b : ℕ) (s : Screen) → Held d F s → Held d F (finish d p b s)
  unfolding finish
  held-finish p b s k = held-cond (eqb b 109) _ _ (held-into Ground s k) (held-act p b s k)

  held-continue : (p : Partial) (b : ℕ) (s : Screen) → Held d F s → Held d F (continue d p b s)
  held-continue p b s k = held-cond (ltb p.left 2) _ _ (held-put _ s k) (held-into _ s k)

  held-step : (m : Parser) (b : ℕ) (s : Screen) → Held d F s → Held d F (step_in d m b s)
  unfolding step_in
  held-step Ground b s k = held-begin b s k
  held-step Escape b s k = held-cond (eqb b 91) _ _ (held-into _ s k) (held-dropped s k)
  held-step (Sequence p) b s k =
      held-cond (within 48 63 b) _ _ (held-into _ s k) (held-cond (within 64 126 b) _ _ (held-finish p b s k) (held-dropped s k))
  held-step (Character p) b s k = held-cond (within p.low p.high b) _ _ (held-continue p b s k) (held-begin b (dropped s) (held-dropped s k))

  held-feed : (bs : List ℕ) (s : Screen) → Held d F s → Held d F (feed d bs s)
  held-feed [] s k = k
  held-feed (b ∷ bs) s k = held-feed bs (step d b s) (held-cond (eqb b 27) _ _ (held_same s.held Escape (join_after s.parser s.pen.join) s k) (held-step s.parser b s k))

module _ (d : Geometry) (tall : 0 < d.rows) (broad : 2 ≤ d.cols) (w : (c : ℕ) → d.width c ≤ 2) where
  pub kept-feed : (bs : List ℕ) (s : Screen) → Kept d s → Kept d (feed d bs s)
  kept-feed bs s k = (held-feed d (λ f. Unit {0}) (any-lasting d) tall broad w bs s (record { kept = k; rows = λ i. tt })).kept

  pub formed-feed : (bs : List ℕ) (s : Screen) → Kept d s → AllFormed d s → AllFormed d (feed d bs s)
  formed-feed bs s k f = (held-feed d (Formed d) (formed-lasting d) tall broad w bs s (record { kept = k; rows = f })).rows

  pub kept-blank : Kept d blank_screen
  kept-blank = record { above = omega arith; inside = omega arith; fits = omega arith; below = λ i j l. refl }

pub keeps-proof : AlwaysKept
keeps-proof d tall broad w = record {
  start = (kept-blank d tall broad w, λ i. formed-blank d);
  kept = kept-feed d tall broad w;
  formed = formed-feed d tall broad w;
}
