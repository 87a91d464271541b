-- Every byte keeps the cursor inside the window, and the cell last taken left of it. Assumes nothing.
use Rattle.std.specs.Prelude.{◌≡◌, ℕ, ◌+◌, ◌-◌, ◌*◌, ◌<◌, ◌≤◌, max, Bool, true, false, cond, List, [], ◌∷◌, Some, None, Option, ◌==◌, nat_lt}
use Rattle.std.proofs.Math.Path.{refl}
use Rattle.std.proofs.Common.{arith}
use Rattle.std.proofs.lemmas.Bool.{ltb-false, eqb-false, cond_both}
use Rattle.text.specs.Characters.{is_control}
use Rattle.screen.specs.Screen.{Screen, Geometry, Pen, Paper, put, put_pen, combine, takes, room, blank_screen}
use Rattle.screen.specs.Bytes.{within, into, dropped, join_after, begin, at, move, inked, holding, act, finish, step_in, step, feed}
use Rattle.screen.specs.declared.cells.Parameters.{Parameters}
use Rattle.screen.specs.declared.cells.Parameters.TheVariants.{Bare, Number, Numbers, Mode, Other}
use Rattle.screen.specs.declared.cells.Parser.{Parser}
use Rattle.screen.specs.declared.cells.Parser.TheVariants.{Ground, Escape, Sequence, Character}
use Rattle.terminal.specs.Windows.{Inside, Ready}

-- the cell last taken is left of column c
abbrev Left : Option ℕ → ℕ → Type 0
Left o c = (j : ℕ) → o ≡ Some j → j < c

left-none : (c : ℕ) → Left None c
left-none c j e = let z : ◌≡◌ {A = ℕ} 0 1 = cc in absurd (omega arith)

left-some : (j c : ℕ) → j < c → Left (Some j) c
left-some j c lt k e = let same : j ≡ k = cc in omega arith

-- what a character does to a pen: the cursor never goes up, and stays in its row's columns
record Drew (d : Geometry) (p q : Pen) : Type 0 where
  down : p.row ≤ q.row
  left : q.col ≤ d.cols
  taken : Left q.join q.col

drew-cond : (d : Geometry) (b : Bool) (p x y : Pen) → (b ≡ true → Drew d p x) → (b ≡ false → Drew d p y) → Drew d p (cond b x y)
drew-cond d b p x y h k = cond_both b x y (Drew d p) h k

drew-combine : (d : Geometry) (o : Option ℕ) (c : ℕ) (p : Pen) → p.join ≡ o → p.col ≤ d.cols → Left p.join p.col → Drew d p (combine o c p)
drew-combine d None c p e h k = record { down = omega arith; left = h; taken = k }
drew-combine d (Some j) c p e h k = record { down = omega arith; left = h; taken = left-some j p.col (k j e) }

module _ (d : Geometry) (wide : 2 ≤ d.cols) (narrow : (c : ℕ) → d.width c ≤ 2) where
  drew-takes : (w c : ℕ) (p : Pen) → w ≤ 2 → 0 < w → (b : Bool) → nat_lt d.cols (p.col + w) ≡ b → Drew d p (takes w c (room b p))
  drew-takes w c p le some true e = record { down = omega arith; left = omega arith; taken = left-some 0 (0 + w) (omega arith) }
  drew-takes w c p le some false e = record { down = omega arith; left = ltb-false d.cols (p.col + w) e; taken = left-some p.col (p.col + w) (omega arith) }

  drew-put : (c : ℕ) (p : Pen) → p.col ≤ d.cols → Left p.join p.col → Drew d p (put_pen d c p)
  unfolding put_pen
  drew-put c p h k =
      drew-cond d (is_control c) p _ _
      (λ _.
      drew-cond d (c == 10) p _ _ (λ _. record { down = omega arith; left = omega arith; taken = left-none 0 })
      (λ _. drew-cond d (c == 13) p _ _ (λ _. record { down = omega arith; left = omega arith; taken = left-none 0 }) (λ _. record { down = omega arith; left = h; taken = left-none p.col })))
      (λ _.
      drew-cond d (d.width c == 0) p _ _ (λ _. drew-combine d p.join c p refl h k)
      (λ e. let some = eqb-false (d.width c) 0 e in drew-takes (d.width c) c p (narrow c) (omega arith) (nat_lt d.cols (p.col + d.width c)) refl))

  module _ (high : 1 ≤ d.rows) where
    pick : (b : Bool) (x y : Screen) → Inside d x → Inside d y → Inside d (cond b x y)
    pick true x y p q = p
    pick false x y p q = q

    inside-into : (m : Parser) (s : Screen) → Inside d s → Inside d (into m s)
    inside-into m s h = record { above = h.above; below = h.below; left = h.left; taken = h.taken }

    -- the cursor where it was, and the joining ended
    inside-inked : (q : Paper) (s : Screen) → Inside d s → Inside d (inked q s)
    inside-inked q s h = record { above = h.above; below = h.below; left = h.left; taken = left-none s.pen.col }

    inside-dropped : (s : Screen) → Inside d s → Inside d (dropped s)
    inside-dropped s h = inside-inked s.pen.paper s h

    inside-holding : (b : Bool) (s : Screen) → Inside d s → Inside d (holding b s)
    inside-holding b s h = record { above = h.above; below = h.below; left = h.left; taken = left-none s.pen.col }

    inside-escaped : (m : Parser) (s : Screen) → s.parser ≡ m → Inside d s → Left (join_after m s.pen.join) s.pen.col
    inside-escaped Ground s e h = h.taken
    inside-escaped Escape s e h = left-none s.pen.col
    inside-escaped (Sequence p) s e h = left-none s.pen.col
    inside-escaped (Character p) s e h = left-none s.pen.col

    inside-put : (c : ℕ) (s : Screen) → Inside d s → Inside d (put d c s)
    inside-put c s h =
        let q = drew-put c s.pen h.left h.taken in
        record { above = omega (arith, q.down, h.above); below = omega arith; left = q.left; taken = q.taken }

    inside-begin : (b : ℕ) (s : Screen) → Inside d s → Inside d (begin d b s)
    unfolding begin
    inside-begin b s h =
        pick (nat_lt b 128) _ _ (inside-put b s h)
        (pick (within 194 223 b) _ _ (inside-into _ s h)
        (pick (b == 224) _ _ (inside-into _ s h)
        (pick (b == 237) _ _ (inside-into _ s h)
        (pick (within 225 239 b) _ _ (inside-into _ s h)
        (pick (b == 240) _ _ (inside-into _ s h)
        (pick (within 241 243 b) _ _ (inside-into _ s h)
        (pick (b == 244) _ _ (inside-into _ s h) (inside-dropped s h))))))))

    inside-at : (i j : ℕ) (s : Screen) → s.top ≤ i → i < s.top + d.rows → j ≤ d.cols → Inside d (at i j s)
    inside-at i j s a b c = record { above = a; below = b; left = c; taken = left-none j }

    inside-move : (b n : ℕ) (s : Screen) → Inside d s → Inside d (move d b n s)
    unfolding move
    inside-move b n s h =
        pick (b == 65) _ _ (inside-at _ _ s (omega arith) (omega arith) (omega arith))
        (pick (b == 66) _ _ (inside-at _ _ s (omega arith) (omega arith) (omega arith))
        (pick (b == 67) _ _ (inside-at _ _ s (omega arith) (omega arith) (omega arith))
        (pick (b == 68) _ _ (inside-at _ _ s (omega arith) (omega arith) (omega arith)) (inside-dropped s h))))

    inside-act : (p : Parameters) (b : ℕ) (s : Screen) → Inside d s → Inside d (act d p b s)
    unfolding act
    inside-act Bare b s h =
        pick (b == 72) _ _ (inside-at s.top 0 s (omega arith) (omega arith) (omega arith))
        (pick (b == 74) _ _ (inside-inked _ s h) (pick (b == 75) _ _ (inside-inked _ s h) (inside-move b 1 s h)))
    inside-act (Number n) b s h = inside-move b (max 1 n) s h
    inside-act (Numbers n) b s h = inside-move b (max 1 n) s h
    inside-act (Mode k) b s h =
        pick (k == 5) _ _ (pick (b == 104) _ _ (inside-holding true s h) (pick (b == 108) _ _ (inside-holding false s h) (inside-dropped s h))) (inside-dropped s h)
    inside-act Other b s h = inside-dropped s h

    inside-in : (m : Parser) (b : ℕ) (s : Screen) → Inside d s → Inside d (step_in d m b s)
    unfolding step_in finish
    inside-in Ground b s h = inside-begin b s h
    inside-in Escape b s h = pick (b == 91) _ _ (inside-into _ s h) (inside-dropped s h)
    inside-in (Sequence p) b s h =
        pick (within 48 63 b) _ _ (inside-into _ s h)
        (pick (within 64 126 b) _ _ (pick (b == 109) _ _ (inside-into Ground s h) (inside-act p b s h)) (inside-dropped s h))
    inside-in (Character p) b s h =
        pick (within p.low p.high b) _ _
        (pick (nat_lt p.left 2) _ _ (inside-put (p.value * 64 + (b - 128)) s h) (inside-into _ s h))
        (inside-begin b (dropped s) (inside-dropped s h))

    pub inside-step : (b : ℕ) (s : Screen) → Inside d s → Inside d (step d b s)
    inside-step b s h =
        pick (b == 27) _ _ (record { above = h.above; below = h.below; left = h.left; taken = inside-escaped s.parser s refl h })
        (inside-in s.parser b s h)

    pub inside-feed : (bs : List ℕ) (s : Screen) → Inside d s → Inside d (feed d bs s)
    inside-feed [] s h = h
    inside-feed (b ∷ bs) s h = inside-feed bs (step d b s) (inside-step b s h)

    -- a blank screen, and what bytes then draw
    pub inside-blank : (bs : List ℕ) → Inside d (feed d bs blank_screen)
    inside-blank bs = inside-feed bs blank_screen (record { above = omega arith; below = omega arith; left = omega arith; taken = left-none 0 })

-- a blank screen is ready
pub ready-blank : Ready blank_screen
ready-blank = record { column = refl; blank = λ i j h. refl; free = refl; finished = refl }

-- at column 0 no cell is left to join
pub none-joined : (d : Geometry) (s : Screen) → Inside d s → s.pen.col ≡ 0 → s.pen.join ≡ None
none-joined d s h first = go s.pen.join refl
  where
    go : (o : Option ℕ) → s.pen.join ≡ o → s.pen.join ≡ None
    go None e = e
    go (Some j) e = absurd (omega (arith, h.taken j e))
