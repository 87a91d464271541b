-- The writes of each act that no rule refuses put its page on the screen.
use Rattle.std.proofs.Common.{◌≡◌, ℕ, suc, ◌+◌, ◌-◌, ◌*◌, ◌<◌, ◌≤◌, max, Bool, true, false, cond, not, ◌&&◌, ◌||◌, eqb, ◌≢◌, List, [], ◌∷◌, ◌++◌, length, take, None, sym, refl, ap, ◌∙◌, subst, one-mul, arith, length-append}
use Rattle.page.proofs.Acting.{cleared, inserted, moved, printed-is, stayed}
use Rattle.page.proofs.Admitting.{Lived-page}
use Rattle.page.proofs.Closing.{front-good, line-front}
use Rattle.page.proofs.Framing.{Clean, first-shown, framed-shows, held-shows, redrawn}
use Rattle.page.proofs.Inserting.{brought, direct_is, line-end, new-front, new-text, old-front}
use Rattle.page.proofs.Propriety.{fit}
use Rattle.page.proofs.Showing.{Fit, Showing, drawn-page, erased-page, feed_all, feed_all-append}
use Rattle.page.proofs.Spelt.{good-cut, styled-decodes}
use Rattle.page.specs.Acts.{Replies, edited, ends_line, gone, hinted, insert, noted, notice_text, page_after, printed, raised, settled, stays}
use Rattle.page.specs.Output.{close_notice, direct, draw_page, erase_page, first_page, framed, let_go, move_page, redraw, styled_block}
use Rattle.page.specs.Page.{Page, block_text, cursor_col, cursor_row, end_row}
use Rattle.page.specs.Rules.{OneCharacter}
use Rattle.screen.proofs.Erasing.{cut, stand}
use Rattle.screen.proofs.Refreshing.{view}
use Rattle.screen.proofs.Shifting.{let-go-is}
use Rattle.screen.specs.Bytes.{feed}
use Rattle.screen.specs.Laws.{Kept}
use Rattle.screen.specs.Output.{clear_bytes, hold_bytes, release_bytes}
use Rattle.screen.specs.Screen.{Geometry, Screen, blank_paper, block, over}
use Rattle.std.proofs.lemmas.Bool.{and_from, and_parts, eqb-true}
use Rattle.std.specs.Str.{chars}
use Rattle.screen.proofs.Sequences.{feed-append}
use Rattle.text.proofs.Spelling.{good-text-utf8}
use Rattle.text.specs.Characters.{AllGood, is_control}
use Rattle.text.specs.Texts.{GoodText, Styled}

module _ (d : Geometry) (prompt : List ℕ) (good : AllGood prompt) (broad : 2 ≤ d.cols) (wide : d.cols ≤ 9999) (high : d.rows ≤ 9999) (rows : 0 < d.rows) (holds : Bool) where
  fits : (p : Page) → Lived-page d prompt p → Fit d prompt p
  fits p w = fit d prompt good p w.proper

  -- a redraw on the same rows
  pub anew : (r : Replies) (p q : Page) (s : Screen) → Showing d prompt false p s → Lived-page d prompt p → Lived-page d prompt q
      → q.base ≡ p.base → q.upper ≡ p.upper → q.window ≡ max p.window (suc (q.base + end_row d prompt q) - d.rows) → Styled (styled_block r) (block_text prompt q)
      → Showing d prompt false q (feed_all d (redraw d prompt holds r p q) s)
  anew r p q s w lp lq eb eu ew st = redrawn d prompt broad wide high holds r p q s w (fits p lp) (fits q lq) eb eu ew st

  pub shows-insert : (bs : List ℕ) (n : ℕ) (r : Replies) (p q : Page) (s : Screen) → q ≡ page_after d prompt s (insert bs n) r true p → Showing d prompt false p s → Lived-page d prompt p → Lived-page d prompt q
      → ((c : ℕ) → is_control c ≡ true → d.width c ≡ 0) → OneCharacter bs → (not (direct d prompt bs n r p q) ≡ true → Styled (styled_block r) (block_text prompt q))
      → (b : Bool) → direct d prompt bs n r p q ≡ b → Showing d prompt false q (feed_all d (cond b (bs ∷ []) (redraw d prompt holds r p q)) s)
  shows-insert bs n r p q s e w lp lq ctl one st false b =
      anew r p q s w lp lq (ap (λ (x : Page). x.base) e) (ap (λ (x : Page). x.upper) e)
      (ap (λ (x : Page). x.window) e ∙ ap (λ (x : Page). max p.window (suc (x.base + end_row d prompt x) - d.rows)) (sym e)) (st (ap not b))
  shows-insert bs n r p q s e w lp lq ctl one st true b =
      let i = direct_is d prompt bs n r p q b in
      let c = brought d.width bs one in
      let line : q.line ≡ p.line ++ bs = ap (λ (x : Page). x.line) e ∙ line-end p.line bs p.pos n i.end i.once in
      let pos : q.pos ≡ length (p.line ++ bs) = ap (λ (x : Page). x.pos) e ∙ (λ k. i.end k + i.once k * length bs) ∙ ap (λ m. length p.line + m) (one-mul (length bs)) ∙ sym (length-append p.line bs) in
      let g = lp.proper.line in
      let cw : d.width c.char ≢ 0 = let a = i.wide in let v = c.width in omega arith in
      let le : cursor_col d prompt p + d.width c.char < d.cols = subst (λ m. cursor_col d prompt p + m < d.cols) c.width i.within in
      subst (λ (x : List ℕ). Showing d prompt false q (feed d x s)) c.bytes
      (inserted d prompt broad wide high p q c.char s w (fits p lp) (fits q lq)
      (old-front prompt p q bs c.char g c.chars i.end i.clear i.bare line pos)
      (new-text prompt p q bs c.char g c.chars i.end i.clear i.bare line pos)
      (new-front prompt p q bs c.char g c.chars i.end i.clear i.bare line pos)
      (ap (λ (x : Page). x.base) e) (ap (λ (x : Page). x.upper) e)
      (ap (λ (x : Page). x.window) e ∙ ap (λ (x : Page). max p.window (suc (x.base + end_row d prompt x) - d.rows)) (sym e))
      c.good.0 (plain-char c.char cw (is_control c.char) refl) cw le)
    where
      plain-char : (c : ℕ) → d.width c ≢ 0 → (b : Bool) → is_control c ≡ b → is_control c ≡ false
      plain-char c h true e = absurd (h (ctl c e))
      plain-char c h false e = e

  pub shows-go : (x : ℕ) (r : Replies) (p q : Page) (s : Screen) → q ≡ gone d prompt r p (edited d prompt p.line x p) → Showing d prompt false p s → Lived-page d prompt p → Lived-page d prompt q
      → ((not (stays d prompt p q) && (r.yes || p.lit)) ≡ true → Styled (styled_block r) (block_text prompt q))
      → (b c : Bool) → stays d prompt p (edited d prompt p.line x p) ≡ b → (r.yes || p.lit) ≡ c → stays d prompt p q ≡ b
      → Showing d prompt false q (feed_all d (cond b [] (cond c (redraw d prompt holds r p q) (move_page d prompt p q ∷ []))) s)
  shows-go x r p q s e w lp lq st true c eb ec es =
      let is : q ≡ edited d prompt p.line x p = e ∙ ap (λ t. cond t (edited d prompt p.line x p) (cond (r.yes || p.lit) (settled d prompt (noted d prompt None p.hint r.yes (edited d prompt p.line x p))) (noted d prompt p.note p.hint r.yes (edited d prompt p.line x p)))) eb in
      let h = and_parts (eqb (cursor_row d prompt p) (cursor_row d prompt q)) (eqb (cursor_col d prompt p) (cursor_col d prompt q)) es in
      stayed d prompt broad wide high p q s w (fits p lp) (fits q lq) (record { text = ap (λ (y : Page). block_text prompt y) is; base = ap (λ (y : Page). y.base) is; upper = ap (λ (y : Page). y.upper) is; window = ap (λ (y : Page). y.window) is })
      (eqb-true (cursor_row d prompt p) (cursor_row d prompt q) h.0) (eqb-true (cursor_col d prompt p) (cursor_col d prompt q) h.1)
  shows-go x r p q s e w lp lq st false true eb ec es =
      let is : q ≡ settled d prompt (noted d prompt None p.hint r.yes (edited d prompt p.line x p)) = e ∙ (λ i. cond (eb i) (edited d prompt p.line x p) (cond (ec i) (settled d prompt (noted d prompt None p.hint r.yes (edited d prompt p.line x p))) (noted d prompt p.note p.hint r.yes (edited d prompt p.line x p)))) in
      anew r p q s w lp lq (ap (λ (y : Page). y.base) is) (ap (λ (y : Page). y.upper) is)
      (ap (λ (y : Page). y.window) is ∙ ap (λ (y : Page). max p.window (suc (y.base + end_row d prompt y) - d.rows)) (sym is))
      (st (and_from (not (stays d prompt p q)) (r.yes || p.lit) (ap not es) ec))
  shows-go x r p q s e w lp lq st false false eb ec es =
      let is : q ≡ noted d prompt p.note p.hint r.yes (edited d prompt p.line x p) = e ∙ (λ i. cond (eb i) (edited d prompt p.line x p) (cond (ec i) (settled d prompt (noted d prompt None p.hint r.yes (edited d prompt p.line x p))) (noted d prompt p.note p.hint r.yes (edited d prompt p.line x p)))) in
      moved d prompt broad wide high p q s w (fits p lp) (fits q lq) (record { text = ap (λ (y : Page). block_text prompt y) is; base = ap (λ (y : Page). y.base) is; upper = ap (λ (y : Page). y.upper) is; window = ap (λ (y : Page). y.window) is })

  -- a notice's bytes and its LF
  notice-parts : (t : List ℕ) → GoodText t → (b : Bool) → ends_line t ≡ b → (bs : List ℕ) × Styled bs (chars (cond b (take (length t - 1) t) t)) × ((s : Screen) → feed_all d (t ∷ cond b [] ((10 ∷ []) ∷ [])) s ≡ feed d (10 ∷ []) (feed d bs s))
  notice-parts t g false e = (t, styled-decodes t g, λ s. refl)
  notice-parts t g true e =
      let front = line-front t e in
      let cut = good-cut t (length t - 1) g (omega arith, good-text-utf8 (take (length t - 1) t) (front-good t g front)) in
      (take (length t - 1) t, styled-decodes (take (length t - 1) t) cut.0, λ s. ap (λ (x : List ℕ). feed d x s) front ∙ feed-append d (take (length t - 1) t) (10 ∷ []) s)

  pub shows-notice : (t : List ℕ) (r : Replies) (p q : Page) (s : Screen) → q ≡ settled d prompt (noted d prompt p.hint p.hint p.lit (printed d prompt t p)) → Showing d prompt false p s → Lived-page d prompt p → Lived-page d prompt q
      → GoodText t → Styled (styled_block r) (block_text prompt q)
      → Showing d prompt false q (feed_all d (framed holds (erase_page d prompt p ∷ (t ∷ (close_notice d prompt t ++ (draw_page d prompt r q ∷ []))))) s)
  shows-notice t r p q s e w lp lq g st =
      framed-shows d prompt (λ u. Showing d prompt u.held p u) q (erase_page d prompt p ∷ (t ∷ (close_notice d prompt t ++ (draw_page d prompt r q ∷ [])))) holds s
      (subst (λ h. Showing d prompt h p s) (sym w.held) w)
      (λ u a. let b = held-shows d prompt u.held p u a in subst (λ h. Showing d prompt h p (feed d hold_bytes u)) (sym b.held) b)
      (λ u a. (held-shows d prompt u.held p u a).held)
      w.held
      (λ u a. body u a)
    where
      xs : List ℕ
      xs = notice_text t

      body : (u : Screen) → Showing d prompt u.held p u → Showing d prompt u.held q (feed_all d (erase_page d prompt p ∷ (t ∷ (close_notice d prompt t ++ (draw_page d prompt r q ∷ [])))) u)
      body u a =
          let f = fits p lp in
          let n = notice-parts t g (ends_line t) refl in
          let sh = f.shown in let tl = f.tall in let uw = a.window in
          let v : Screen = view blank_paper 0 0 None (max u.top (suc (p.base + suc (block d (notice_text t)).row) - d.rows)) u.held in
          let at : feed_all d (erase_page d prompt p ∷ (t ∷ close_notice d prompt t)) u ≡ stand (cut (p.base + suc (block d (notice_text t)).row) (over p.base p.upper (block d (notice_text t)).paper)) (p.base + suc (block d (notice_text t)).row) v =
          ap (feed_all d (t ∷ close_notice d prompt t)) (erased-page d prompt broad wide high u.held p u a f) ∙ n.2 (stand (cut p.base p.upper) p.base u) ∙ printed-is d prompt broad wide high p.base p.upper n.0 (notice_text t) u (omega arith) (omega arith) n.1 in
          let eb : q.base ≡ p.base + suc (block d (notice_text t)).row = ap (λ (x : Page). x.base) e in
          let eu : q.upper ≡ over p.base p.upper (block d (notice_text t)).paper = ap (λ (x : Page). x.upper) e in
          let ew : q.window ≡ max p.window (suc (q.base + end_row d prompt q) - d.rows) = ap (λ (x : Page). x.window) e ∙ ap (λ (x : Page). max p.window (suc (x.base + end_row d prompt x) - d.rows)) (sym e) in
          let at2 : feed_all d (erase_page d prompt p ∷ (t ∷ close_notice d prompt t)) u ≡ stand (cut q.base q.upper) q.base v = at ∙ (λ i. stand (cut (sym eb i) (sym eu i)) (sym eb i) v) in
          let top : v.top ≤ q.base = omega arith in
          subst (Showing d prompt u.held q) (sym (feed_all-append d (erase_page d prompt p ∷ (t ∷ close_notice d prompt t)) (draw_page d prompt r q ∷ []) u ∙ ap (feed d (draw_page d prompt r q)) at2))
          (drawn-page d prompt broad wide high r q v (fits q lq) st top (omega arith) (omega arith))

  -- create and clear draw where nothing stands
  pub shows_first : (r : Replies) (q : Page) (top : ℕ) (s : Screen) → Clean d prompt broad wide high q.base q.upper top s → s.held ≡ false → Lived-page d prompt q
      → q.window ≡ max top (suc (q.base + end_row d prompt q) - d.rows) → Styled (styled_block r) (block_text prompt q) → Showing d prompt false q (feed_all d (first_page d prompt holds r q) s)
  shows_first r q top s c e lq ew st = first-shown d prompt broad wide high holds r q top s c e (fits q lq) ew st

  pub shows-clear : (torn : Bool) (r : Replies) (p q : Page) (s : Screen) → q ≡ hinted d prompt r (raised d prompt s.pen.paper s.top s.top p) → Kept d s → (torn ≡ false → s.held ≡ false) → (holds ≡ false → s.held ≡ false) → Lived-page d prompt q
      → Styled (styled_block r) (block_text prompt q) → ((bs : List ℕ) (u : Screen) → Kept d u → Kept d (feed d bs u))
      → Showing d prompt false q (feed_all d (let_go d prompt holds torn ++ (clear_bytes ∷ first_page d prompt holds r q)) s)
  shows-clear torn r p q s e k free loose lq st keeps = go torn holds refl refl
    where
      eb : q.base ≡ s.top
      eb = ap (λ (x : Page). x.base) e

      eu : q.upper ≡ s.pen.paper
      eu = ap (λ (x : Page). x.upper) e

      ew : q.window ≡ max s.top (suc (q.base + end_row d prompt q) - d.rows)
      ew = ap (λ (x : Page). x.window) e ∙ ap (λ (x : Page). max s.top (suc (x.base + end_row d prompt x) - d.rows)) (sym e)

      -- from a screen with the same paper and window, and no update held
      on : (u : Screen) → Kept d u → u.pen.paper ≡ s.pen.paper → u.top ≡ s.top → u.held ≡ false → Showing d prompt false q (feed_all d (clear_bytes ∷ first_page d prompt holds r q) u)
      on u ku ep et eh =
          let c = cleared d prompt broad wide high q.upper u ku rows (ep ∙ sym eu) in
          let x : Clean d prompt broad wide high q.base q.upper s.top (feed d clear_bytes u) = subst (λ t. Clean d prompt broad wide high t q.upper s.top (feed d clear_bytes u)) (et ∙ sym eb) (subst (λ t. Clean d prompt broad wide high u.top q.upper t (feed d clear_bytes u)) et c.0) in
          shows_first r q s.top (feed d clear_bytes u) x (c.1 ∙ eh) lq ew st

      let-go : Showing d prompt false q (feed_all d (release_bytes ∷ (clear_bytes ∷ first_page d prompt holds r q)) s)
      let-go =
          let is = let-go-is d s in
          on (feed d release_bytes s) (keeps release_bytes s k) (ap (λ (x : Screen). x.pen.paper) is) (ap (λ (x : Screen). x.top) is) (ap (λ (x : Screen). x.held) is)

      go : (t h : Bool) → torn ≡ t → holds ≡ h → Showing d prompt false q (feed_all d (cond (t && h) (release_bytes ∷ []) [] ++ (clear_bytes ∷ first_page d prompt holds r q)) s)
      go false h et eh = on s k refl refl (free et)
      go true false et eh = on s k refl refl (loose eh)
      go true true et eh = let-go
