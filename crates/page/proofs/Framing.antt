-- Drawings, with or without a held update around them.
use Rattle.std.proofs.Common.{◌≡◌, ℕ, suc, ◌+◌, ◌-◌, ◌<◌, ◌≤◌, max, Bool, true, false, List, [], ◌∷◌, ◌++◌, sym, refl, ap, ◌∙◌, subst, arith}
use Rattle.page.proofs.Showing.{Fit, Showing, drawn-page, erased-page, feed_all, feed_all-append, view-is}
use Rattle.page.specs.Acts.{Replies}
use Rattle.page.specs.Output.{draw_page, erase_page, first_page, framed, redraw, styled_block}
use Rattle.page.specs.Page.{Page, block_text, end_row}
use Rattle.screen.proofs.Erasing.{cut, cut_below, erased-is, stand}
use Rattle.screen.proofs.Refreshing.{over-over}
use Rattle.screen.proofs.Shifting.{hold-is, release-is}
use Rattle.screen.specs.Bytes.{feed}
use Rattle.screen.specs.Output.{erase_bytes, hold_bytes, release_bytes}
use Rattle.screen.specs.Screen.{Geometry, Paper, Screen, blank_paper}
use Rattle.screen.specs.declared.cells.Parser.TheVariants.{Ground}
use Rattle.screen.proofs.Sequences.{feed-append}
use Rattle.text.specs.Texts.{Styled}

module _ (d : Geometry) (prompt : List ℕ) where
  -- an update begins or ends
  pub held-shows : (h : Bool) (p : Page) (s : Screen) → Showing d prompt h p s → Showing d prompt true p (feed d hold_bytes s)
  held-shows h p s w =
      subst (Showing d prompt true p) (sym (ap (feed d hold_bytes) (view-is s w.idle) ∙ hold-is d s.pen.paper s.pen.row s.pen.col s.pen.join s.top s.held))
      (record { paper = w.paper; row = w.row; col = w.col; window = w.window; held = refl; idle = refl })

  pub released-shows : (h : Bool) (p : Page) (s : Screen) → Showing d prompt h p s → Showing d prompt false p (feed d release_bytes s)
  released-shows h p s w =
      subst (Showing d prompt false p) (sym (ap (feed d release_bytes) (view-is s w.idle) ∙ release-is d s.pen.paper s.pen.row s.pen.col s.pen.join s.top s.held))
      (record { paper = w.paper; row = w.row; col = w.col; window = w.window; held = refl; idle = refl })

  -- a body that draws the page q wherever A holds, which marks do not touch
  pub framed-shows : (A : Screen → Type 0) (q : Page) (body : List (List ℕ)) (holds : Bool) (s : Screen)
      → A s → ((t : Screen) → A t → A (feed d hold_bytes t)) → ((t : Screen) → A t → (feed d hold_bytes t).held ≡ true) → (s.held ≡ false)
      → ((t : Screen) → A t → Showing d prompt t.held q (feed_all d body t))
      → Showing d prompt false q (feed_all d (framed holds body) s)
  framed-shows A q body false s a k m e f = subst (λ h. Showing d prompt h q (feed_all d body s)) e (f s a)
  framed-shows A q body true s a k m e f =
      subst (Showing d prompt false q) (sym (feed_all-append d body (release_bytes ∷ []) (feed d hold_bytes s)))
      (released-shows (feed d hold_bytes s).held q (feed_all d body (feed d hold_bytes s)) (f (feed d hold_bytes s) (k s a)))

  module _ (broad : 2 ≤ d.cols) (wide : d.cols ≤ 9999) (high : d.rows ≤ 9999) where
    -- the old page gives way to a new one on the same rows
    pub redrawn-body : (r : Replies) (p q : Page) (s : Screen) → Showing d prompt s.held p s → Fit d prompt p → Fit d prompt q
        → q.base ≡ p.base → q.upper ≡ p.upper → q.window ≡ max p.window (suc (q.base + end_row d prompt q) - d.rows)
        → Styled (styled_block r) (block_text prompt q)
        → Showing d prompt s.held q (feed d (erase_page d prompt p ++ draw_page d prompt r q) s)
    redrawn-body r p q s w f g eb eu ew st =
        let is : feed d (erase_page d prompt p) s ≡ stand (cut q.base q.upper) q.base s = erased-page d prompt broad wide high s.held p s w f ∙ (λ i. stand (cut (sym eb i) (sym eu i)) (sym eb i) s) in
        let ft = f.tall in
        subst (Showing d prompt s.held q) (sym (feed-append d (erase_page d prompt p) (draw_page d prompt r q) s ∙ ap (feed d (draw_page d prompt r q)) is))
        (drawn-page d prompt broad wide high r q s g st (rw (w.window, eb) f.shown) (rw (w.window, eb) (omega arith)) (ew ∙ ap (λ t. max t (suc (q.base + end_row d prompt q) - d.rows)) (sym w.window)))

    pub redrawn : (holds : Bool) (r : Replies) (p q : Page) (s : Screen) → Showing d prompt false p s → Fit d prompt p → Fit d prompt q
        → q.base ≡ p.base → q.upper ≡ p.upper → q.window ≡ max p.window (suc (q.base + end_row d prompt q) - d.rows)
        → Styled (styled_block r) (block_text prompt q)
        → Showing d prompt false q (feed_all d (redraw d prompt holds r p q) s)
    redrawn holds r p q s w f g eb eu ew st =
        framed-shows (λ t. Showing d prompt t.held p t) q ((erase_page d prompt p ++ draw_page d prompt r q) ∷ []) holds s
        (subst (λ h. Showing d prompt h p s) (sym w.held) w)
        (λ t a. let b = held-shows t.held p t a in subst (λ h. Showing d prompt h p (feed d hold_bytes t)) (sym b.held) b)
        (λ t a. (held-shows t.held p t a).held)
        w.held
        (λ t a. redrawn-body r p q t a f g eb eu ew st)

    -- nothing stands from a row on, and the cursor is at its start
    pub record Clean (r : ℕ) (up : Paper) (top : ℕ) (s : Screen) : Type 0 where
      pub paper : s.pen.paper ≡ cut r up
      pub row : s.pen.row ≡ r
      pub above : top ≤ r
      pub inside : r < top + d.rows
      pub window : s.top ≡ top
      pub idle : s.parser ≡ Ground

    clean-held : (r : ℕ) (up : Paper) (top : ℕ) (s : Screen) → Clean r up top s → (Clean r up top (feed d hold_bytes s)) × ((feed d hold_bytes s).held ≡ true)
    clean-held r up top s c =
        subst (λ t. Clean r up top t × (t.held ≡ true)) (sym (ap (feed d hold_bytes) (view-is s c.idle) ∙ hold-is d s.pen.paper s.pen.row s.pen.col s.pen.join s.top s.held))
        (record { paper = c.paper; row = c.row; above = c.above; inside = c.inside; window = c.window; idle = refl }, refl)

    -- an erase of one row finds nothing
    clean-erased : (r : ℕ) (up : Paper) (top : ℕ) (s : Screen) → Clean r up top s → feed d (erase_bytes 0 0) s ≡ stand (cut r up) r s
    clean-erased r up top s c =
        erased-is d s r 0 0 c.idle (rw c.window c.above) (omega (arith, c.row)) (rw c.window (let i = c.inside in omega arith)) (omega arith) (λ i j l. ap (λ (p : Paper). p i j) c.paper ∙ cut_below r up i j (omega arith))
        ∙ ap (λ p. stand p r s) (ap (cut r) c.paper ∙ over-over r up blank_paper blank_paper)

    pub first_body : (r : Replies) (q : Page) (top : ℕ) (s : Screen) → Clean q.base q.upper top s → Fit d prompt q
        → q.window ≡ max top (suc (q.base + end_row d prompt q) - d.rows) → Styled (styled_block r) (block_text prompt q)
        → Showing d prompt s.held q (feed d (erase_bytes 0 0 ++ draw_page d prompt r q) s)
    first_body r q top s c g ew st =
        subst (Showing d prompt s.held q) (sym (feed-append d (erase_bytes 0 0) (draw_page d prompt r q) s ∙ ap (feed d (draw_page d prompt r q)) (clean-erased q.base q.upper top s c)))
        (drawn-page d prompt broad wide high r q s g st (rw c.window c.above) (rw c.window c.inside) (ew ∙ ap (λ t. max t (suc (q.base + end_row d prompt q) - d.rows)) (sym c.window)))

    pub first-shown : (holds : Bool) (r : Replies) (q : Page) (top : ℕ) (s : Screen) → Clean q.base q.upper top s → s.held ≡ false → Fit d prompt q
        → q.window ≡ max top (suc (q.base + end_row d prompt q) - d.rows) → Styled (styled_block r) (block_text prompt q)
        → Showing d prompt false q (feed_all d (first_page d prompt holds r q) s)
    first-shown holds r q top s c e g ew st =
        framed-shows (Clean q.base q.upper top) q ((erase_bytes 0 0 ++ draw_page d prompt r q) ∷ []) holds s c
        (λ t a. (clean-held q.base q.upper top t a).0) (λ t a. (clean-held q.base q.upper top t a).1) e
        (λ t a. first_body r q top t a g ew st)
