-- What the writes of go, insert, notice, clear and finish do to a screen that shows a page.
use Rattle.std.proofs.Common.{◌≡◌, ℕ, suc, ◌+◌, ◌-◌, ◌<◌, ◌≤◌, max, Bool, true, false, cond, ◌&&◌, eqb, ◌≢◌, List, [], ◌∷◌, ◌++◌, None, Option, sym, refl, ap, ◌∙◌, subst, arith}
use lib.Utf8.{encode, scalar}
use Rattle.page.proofs.Framing.{Clean}
use Rattle.page.proofs.Showing.{Fit, Showing, cursor-end, feed_all, feed_all-append, live-col, live-row}
use Rattle.page.specs.Acts.{closed}
use Rattle.page.specs.Output.{move_page, to_end}
use Rattle.page.specs.Page.{Page, block_text, cursor_col, cursor_row, end_col, end_row, front_text}
use Rattle.screen.proofs.Clearing.{cleared-is}
use Rattle.screen.proofs.Drawing.{over-blank}
use Rattle.screen.proofs.Erasing.{cut, stand}
use Rattle.screen.proofs.Inserting.{inserts-proof}
use Rattle.screen.proofs.Heights.{block-blank, place-col, place-least}
use Rattle.screen.proofs.Refreshing.{draw-page, over-under, view}
use Rattle.screen.proofs.Shifting.{line-feed-is, moved-is}
use Rattle.screen.specs.Bytes.{feed}
use Rattle.screen.specs.Laws.{Kept}
use Rattle.screen.specs.Output.{clear_bytes, move_bytes}
use Rattle.screen.specs.Pages.{OnScreen}
use Rattle.screen.specs.Screen.{Geometry, Paper, Row, Screen, blank_paper, block, over, place_col, place_row}
use Rattle.screen.specs.declared.cells.Cell.TheVariants.{Blank}
use Rattle.std.proofs.lemmas.Bool.{and_parts, eqb-true}
use Rattle.terminal.specs.Windows.{Ready}
use Rattle.text.specs.Characters.{is_control}
use Rattle.text.specs.Texts.{Styled}

module _ (d : Geometry) (prompt : List ℕ) (broad : 2 ≤ d.cols) (wide : d.cols ≤ 9999) (high : d.rows ≤ 9999) where
  -- a page whose block is the same, at another place
  pub record Beside (p q : Page) : Type 0 where
    pub text : block_text prompt q ≡ block_text prompt p
    pub base : q.base ≡ p.base
    pub upper : q.upper ≡ p.upper
    pub window : q.window ≡ p.window

  beside-paper : (p q : Page) → Beside p q → over p.base p.upper (block d (block_text prompt p)).paper ≡ over q.base q.upper (block d (block_text prompt q)).paper
  beside-paper p q b = λ i. over (sym b.base i) (sym b.upper i) (block d (sym b.text i)).paper

  at_row : (p : Page) (s : Screen) → Showing d prompt false p s → Fit d prompt p → s.pen.row ≡ p.base + cursor_row d prompt p
  at_row p s w f = w.row ∙ live-row d prompt broad wide high p f.live

  at-col : (p : Page) (s : Screen) → Showing d prompt false p s → Fit d prompt p → s.pen.col ≡ cursor_col d prompt p
  at-col p s w f = w.col ∙ live-col d prompt broad wide high p f.live

  -- the screen of a page, by its parts
  page-view : (p : Page) (s : Screen) → Showing d prompt false p s → Fit d prompt p → s ≡ view (over p.base p.upper (block d (block_text prompt p)).paper) (p.base + cursor_row d prompt p) (cursor_col d prompt p) s.pen.join p.window false
  page-view p s w f = λ i. record { pen = record { paper = w.paper i; row = at_row p s w f i; col = at-col p s w f i; join = s.pen.join }; top = w.window i; held = w.held i; parser = w.idle i }

  cursor-low : (p : Page) → Fit d prompt p → p.base + cursor_row d prompt p < p.window + d.rows
  cursor-low p f = let a = cursor-end d prompt broad wide high p f in let b = f.tall in omega arith

  -- both places are one
  pub stayed : (p q : Page) (s : Screen) → Showing d prompt false p s → Fit d prompt p → Fit d prompt q → Beside p q → cursor_row d prompt p ≡ cursor_row d prompt q → cursor_col d prompt p ≡ cursor_col d prompt q → Showing d prompt false q s
  stayed p q s w f g b er ec = record {
    paper = w.paper ∙ beside-paper p q b;
    row = at_row p s w f ∙ (λ i. sym b.base i + er i) ∙ sym (live-row d prompt broad wide high q g.live);
    col = at-col p s w f ∙ ec ∙ sym (live-col d prompt broad wide high q g.live);
    window = w.window ∙ sym b.window;
    held = w.held;
    idle = w.idle;
  }

  -- the cursor moves
  pub moved : (p q : Page) (s : Screen) → Showing d prompt false p s → Fit d prompt p → Fit d prompt q → Beside p q → Showing d prompt false q (feed d (move_page d prompt p q) s)
  moved p q s w f g b =
      let paper = over p.base p.upper (block d (block_text prompt p)).paper in
      let below : p.base + cursor_row d prompt q < p.window + d.rows = subst (λ n. n + cursor_row d prompt q < p.window + d.rows) b.base (subst (λ n. q.base + cursor_row d prompt q < n + d.rows) b.window (cursor-low q g)) in
      let m = moved-is d paper p.base p.window false f.shown wide high (cursor_row d prompt p) (cursor_col d prompt p) (cursor_row d prompt q) (cursor_col d prompt q) s.pen.join
      (cursor-low p f) below (place-col d (block d (front_text prompt p)) (omega arith)) (place-col d (block d (front_text prompt q)) (omega arith)) in
      subst (Showing d prompt false q) (sym (ap (feed d (move_page d prompt p q)) (page-view p s w f) ∙ m.1))
      (record { paper = beside-paper p q b; row = (λ i. sym b.base i + cursor_row d prompt q) ∙ sym (live-row d prompt broad wide high q g.live); col = sym (live-col d prompt broad wide high q g.live); window = sym b.window; held = refl; idle = refl })

  -- one character at the end of the line, written by itself
  pub inserted : (p q : Page) (c : ℕ) (s : Screen) → Showing d prompt false p s → Fit d prompt p → Fit d prompt q
      → front_text prompt p ≡ block_text prompt p → block_text prompt q ≡ block_text prompt p ++ (c ∷ []) → front_text prompt q ≡ block_text prompt q
      → q.base ≡ p.base → q.upper ≡ p.upper → q.window ≡ max p.window (suc (q.base + end_row d prompt q) - d.rows)
      → scalar c ≡ true → is_control c ≡ false → d.width c ≢ 0 → cursor_col d prompt p + d.width c < d.cols
      → Showing d prompt false q (feed d (encode c) s)
  inserted p q c s w f g ef eb eq base upper win sc co wi le =
      let cs = block_text prompt p in
      let here : OnScreen d p.base p.upper cs (place_row d (block d cs)) (place_col d (block d cs)) s =
      record { idle = w.idle; paper = w.paper; line = at_row p s w f ∙ ap (λ (x : List ℕ). p.base + place_row d (block d x)) ef; place = at-col p s w f ∙ ap (λ (x : List ℕ). place_col d (block d x)) ef; shown = rw w.window f.shown; tall = rw w.window f.tall } in
      let i = inserts-proof d p.base p.upper cs c s here sc co wi (subst (λ (x : List ℕ). place_col d (block d x) + d.width c < d.cols) ef le) in
      let row : cursor_row d prompt q ≡ place_row d (block d (cs ++ (c ∷ []))) = ap (λ (x : List ℕ). place_row d (block d x)) (eq ∙ eb) in
      let col : cursor_col d prompt q ≡ place_col d (block d (cs ++ (c ∷ []))) = ap (λ (x : List ℕ). place_col d (block d x)) (eq ∙ eb) in
      let end : end_row d prompt q ≡ end_row d prompt p = ap (λ (x : List ℕ). place_row d (block d x)) eb ∙ i.row in
      let t = f.tall in
      record {
        paper = i.page.paper ∙ (λ k. over (sym base k) (sym upper k) (block d (sym eb k)).paper);
        row = i.page.line ∙ (λ k. sym base k + sym row k) ∙ sym (live-row d prompt broad wide high q g.live);
        col = i.page.place ∙ sym col ∙ sym (live-col d prompt broad wide high q g.live);
        window = i.window ∙ w.window ∙ sym (win ∙ ap (λ n. max p.window (suc (n + end_row d prompt q) - d.rows)) base ∙ omega (arith, end));
        held = i.held ∙ w.held;
        idle = i.page.idle;
      }

  -- after a block and an LF the rows below are blank
  rows-blank : (r : ℕ) (up : Paper) (xs : List ℕ) (i j : ℕ) → r + suc (block d xs).row ≤ i → over r up (block d xs).paper i j ≡ Blank
  rows-blank r up xs i j h = ap (λ (x : Row). x j) (over-under r up (block d xs).paper i (omega arith)) ∙ block-blank d xs (i - r) j (omega arith)

  -- a notice's text and its LF, from the start of a row where nothing stands
  pub printed-is : (r : ℕ) (up : Paper) (bs xs : List ℕ) (s : Screen) → s.top ≤ r → r < s.top + d.rows → Styled bs xs
      → feed d (10 ∷ []) (feed d bs (stand (cut r up) r s))
      ≡ stand (cut (r + suc (block d xs).row) (over r up (block d xs).paper)) (r + suc (block d xs).row) (view blank_paper 0 0 None (max s.top (suc (r + suc (block d xs).row) - d.rows)) s.held)
  printed-is r up bs xs s above inside st =
      ap (feed d (10 ∷ [])) (draw-page d r up bs xs s above inside st)
      ∙ line-feed-is d (over r up (block d xs).paper) (r + (block d xs).row) (block d xs).col (block d xs).join (max s.top (suc (r + (block d xs).row) - d.rows)) s.held
      ∙ (λ i. view (sym (over-blank (r + suc (block d xs).row) (over r up (block d xs).paper) (rows-blank r up xs)) i) (rows i) 0 None (tops i) s.held)
    where
      rows : suc (r + (block d xs).row) ≡ r + suc (block d xs).row
      rows = omega arith

      tops : max (max s.top (suc (r + (block d xs).row) - d.rows)) (suc (suc (r + (block d xs).row)) - d.rows) ≡ max s.top (suc (r + suc (block d xs).row) - d.rows)
      tops = omega arith

  -- the block's end and the row below it
  pub finished : (p : Page) (s : Screen) → Showing d prompt false p s → Fit d prompt p → Showing d prompt false (closed d prompt p) (feed_all d (to_end d prompt p ++ ((10 ∷ []) ∷ [])) s)
  finished p s w f = subst (Showing d prompt false (closed d prompt p)) (sym (feed_all-append d (to_end d prompt p) ((10 ∷ []) ∷ []) s)) (go (eqb (cursor_row d prompt p) (end_row d prompt p) && eqb (cursor_col d prompt p) (end_col d prompt p)) refl)
    where
      paper : Paper
      paper = over p.base p.upper (block d (block_text prompt p)).paper

      last : (o : Option ℕ) → Showing d prompt false (closed d prompt p) (feed d (10 ∷ []) (view (over p.base p.upper (block d (block_text prompt p)).paper) (p.base + end_row d prompt p) (end_col d prompt p) o p.window false))
      last o = subst (Showing d prompt false (closed d prompt p)) (sym (line-feed-is d (over p.base p.upper (block d (block_text prompt p)).paper) (p.base + end_row d prompt p) (end_col d prompt p) o p.window false))
          (record { paper = refl; row = omega arith; col = refl; window = refl; held = refl; idle = refl })

      go : (b : Bool) → (eqb (cursor_row d prompt p) (end_row d prompt p) && eqb (cursor_col d prompt p) (end_col d prompt p)) ≡ b
          → Showing d prompt false (closed d prompt p) (feed d (10 ∷ []) (feed_all d (cond b [] (move_bytes (cursor_row d prompt p) (cursor_col d prompt p) (end_row d prompt p) (end_col d prompt p) ∷ [])) s))
      go true e =
          let h = and_parts (eqb (cursor_row d prompt p) (end_row d prompt p)) (eqb (cursor_col d prompt p) (end_col d prompt p)) e in
          let er = eqb-true (cursor_row d prompt p) (end_row d prompt p) h.0 in
          let ec = eqb-true (cursor_col d prompt p) (end_col d prompt p) h.1 in
          subst (λ t. Showing d prompt false (closed d prompt p) (feed d (10 ∷ []) t)) (sym (page-view p s w f ∙ (λ i. view (over p.base p.upper (block d (block_text prompt p)).paper) (p.base + er i) (ec i) s.pen.join p.window false))) (last s.pen.join)
      go false e =
          let m = moved-is d (over p.base p.upper (block d (block_text prompt p)).paper) p.base p.window false f.shown wide high (cursor_row d prompt p) (cursor_col d prompt p) (end_row d prompt p) (end_col d prompt p) s.pen.join
          (cursor-low p f) f.tall (place-col d (block d (front_text prompt p)) (omega arith)) (place-col d (block d (block_text prompt p)) (omega arith)) in
          subst (λ t. Showing d prompt false (closed d prompt p) (feed d (10 ∷ []) t)) (sym (ap (feed d (move_bytes (cursor_row d prompt p) (cursor_col d prompt p) (end_row d prompt p) (end_col d prompt p))) (page-view p s w f) ∙ m.1)) (last m.0)

  -- after a finish the terminal is ready
  pub finished-ready : (p : Page) (s : Screen) → Fit d prompt p → Showing d prompt false (closed d prompt p) s → Ready s
  finished-ready p s f w = record {
    column = w.col;
    blank = λ i j h. ap (λ (x : Paper). x i j) w.paper ∙ ap (λ (x : Row). x j) (over-under p.base p.upper (block d (block_text prompt p)).paper i (omega (arith, w.row))) ∙ block-blank d (block_text prompt p) (i - p.base) j (omega (arith, w.row, place-least d (block d (block_text prompt p))));
    free = w.held;
    finished = w.idle;
  }

  -- home and erase, whatever is unfinished
  pub cleared : (up : Paper) (s : Screen) → Kept d s → 0 < d.rows → s.pen.paper ≡ up → Clean d prompt broad wide high s.top up s.top (feed d clear_bytes s) × ((feed d clear_bytes s).held ≡ s.held)
  cleared up s k pos e =
      subst (λ t. Clean d prompt broad wide high s.top up s.top t × (t.held ≡ s.held)) (sym (cleared-is d s pos k ∙ ap (λ p. stand (cut s.top p) s.top s) e))
      (record { paper = refl; row = refl; above = omega arith; inside = omega arith; window = refl; idle = refl }, refl)
