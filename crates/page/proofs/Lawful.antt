-- Every step of the law keeps what the law says.
use Rattle.std.proofs.Common.{◌≡◌, ℕ, suc, ◌+◌, ◌-◌, ◌^◌, ◌<◌, ◌≤◌, max, Bool, true, false, cond, not, ◌&&◌, ◌||◌, eqb, ◌⊎◌, List, [], ◌∷◌, ◌++◌, take, is_ok, is_err, Some, None, Ok, Err, Option, Result, sym, refl, ap, ◌∙◌, subst, inl, inr, append_assoc, arith}
use borrow.Author.Tests.{clash}
use Rattle.page.proofs.Acting.{finished, finished-ready}
use Rattle.page.proofs.Admitting.{Admitted, Lived-page, admitted, after-proper, created-proper}
use Rattle.page.proofs.Delivering.{Worked-through, delivered, joined}
use Rattle.page.proofs.Framing.{Clean}
use Rattle.page.proofs.Propriety.{Proper, fit}
use Rattle.page.proofs.Quieting.{calm-clear, rests-clear, rests-draw, rests-erase, rests-moves, rests-styled}
use Rattle.page.proofs.Showing.{Showing, cursor-end, feed_all, showing-shows, shows-showing}
use Rattle.page.proofs.Spelt.{one-good, spells-decodes, styled-decodes}
use Rattle.page.proofs.Stepping.{anew, shows-clear, shows_first, shows-go, shows-insert, shows-notice}
use Rattle.page.specs.Acts.{Act, Replies, clear, closed, create, edited, ends_line, finish, go, gone, insert, message, noted, notice, page_after, refresh, set, settled, stays}
use Rattle.page.specs.Law.{Coloured, Moment, NoteLit, Settings, Shown, SizeFine, Stepped, Uncoloured, Went, World, draws, geometry_of, note_bytes}
use Rattle.page.specs.Meaning.{Meant}
use Rattle.page.specs.Output.{close_notice, direct, draw_page, erase_page, first_page, let_go, move_page, redraw, styled_block, to_end, writes}
use Rattle.page.specs.Page.{Page, Shows, block_text, cursor_col, cursor_row, end_col, end_row, front_text, note_text}
use Rattle.page.specs.Rules.{HeightFine, Outcome, TextFine, mends}
use Rattle.page.specs.declared.outcome.BrokenAct.{BrokenAct}
use Rattle.page.specs.declared.outcome.Rejection.TheVariants.{Broke, Refused}
use Rattle.screen.proofs.Calming.{Loose, Rests, bare_parser, calm, calm-take, escape_parser, loose-feed, mode_parser, rests-append, rests-byte, rests-calm, rests-none}
use Rattle.screen.proofs.Drawing.{over-blank}
use Rattle.screen.proofs.Erasing.{cut}
use Rattle.screen.proofs.Heights.{place-col}
use Rattle.screen.proofs.Keeping.{kept-feed}
use Rattle.screen.specs.Bytes.{feed}
use Rattle.screen.specs.Laws.{Kept}
use Rattle.screen.specs.Output.{clear_bytes, erase_bytes, move_bytes, release_bytes}
use Rattle.screen.specs.Screen.{Geometry, Screen, block}
use Rattle.std.proofs.lemmas.Bool.{and_from, and_right, eqb-false}
use Rattle.std.specs.Str.{chars}
use Rattle.terminal.specs.Limits.{proper}
use Rattle.terminal.specs.Windows.{Inside, Ready, geometry}
use Rattle.text.proofs.Styling.{styled-append, styled-good}
use Rattle.text.specs.Characters.{AllGood}
use Rattle.text.specs.Texts.{GoodText, Styled, ends}
use Rattle.text.specs.declared.refusal.Refusal.{Refusal}

-- each write leaves nothing behind ESC
AllRest : List (List ℕ) → Type 0
AllRest [] = Unit {0}
AllRest (x ∷ xs) = Rests x × AllRest xs

rest-joined : (ws : List (List ℕ)) → AllRest ws → Rests (joined ws)
unfolding AllRest
rest-joined [] h = rests-none
rest-joined (x ∷ xs) h = rests-append x (joined xs) h.0 (rest-joined xs h.1)

rest_both : (vs ws : List (List ℕ)) → AllRest vs → AllRest ws → AllRest (vs ++ ws)
unfolding AllRest
rest_both [] ws h k = k
rest_both (v ∷ vs) ws h k = (h.0, rest_both vs ws h.1 k)

rest-cond : (b : Bool) (vs ws : List (List ℕ)) → (b ≡ true → AllRest vs) → (b ≡ false → AllRest ws) → AllRest (cond b vs ws)
rest-cond true vs ws h k = h refl
rest-cond false vs ws h k = k refl

joined-append : (vs ws : List (List ℕ)) → joined (vs ++ ws) ≡ joined vs ++ joined ws
joined-append [] ws = refl
joined-append (v ∷ vs) ws = ap (λ (x : List ℕ). v ++ x) (joined-append vs ws) ∙ sym (append_assoc v (joined vs) (joined ws))

module _ {T H : Type 0} (w : World T H) (z : Settings) (meant : Meant w) (raw_shown : Styled z.raw z.prompt) (styled_shown : Styled z.styled z.prompt) where
  abbrev d : Geometry
  d = geometry_of w z

  abbrev prompt : List ℕ
  prompt = z.prompt

  good : AllGood z.prompt
  good = styled-good raw_shown

  broad : 2 ≤ z.size.cols
  broad = z.size.wide

  wide : z.size.cols ≤ 9999
  wide = let h = z.size.narrow in omega arith

  high : z.size.rows ≤ 9999
  high = let h = z.size.low in omega arith

  tall : 0 < z.size.rows
  tall = let h = z.size.high in omega arith

  -- the styled texts show the block
  note-styled : (h : H) (o : Option (List ℕ)) (lit : List ℕ) → ((t : List ℕ) → o ≡ Some t → GoodText t) → NoteLit w z h o lit → Styled lit (note_text o)
  note-styled h None lit g e = subst (λ (x : List ℕ). Styled x []) (sym e) ends
  note-styled h (Some t) lit g e = meant.hint_shown h t (chars t) lit (spells-decodes t (g t refl)) e

  note-raw : (o : Option (List ℕ)) (lit : List ℕ) → ((t : List ℕ) → o ≡ Some t → GoodText t) → lit ≡ note_bytes w z o → Styled lit (note_text o)
  note-raw None lit g e = subst (λ (x : List ℕ). Styled x []) (sym e) ends
  note-raw (Some t) lit g e = subst (λ (x : List ℕ). Styled x (chars t)) (sym e) (styled-decodes t (g t refl))

  block-styled : (h : H) (q : Page) (r : Replies) → Proper d prompt q → (b : Bool) → cond b (Coloured w z h q r) (Uncoloured w z q r) → Styled (styled_block r) (block_text prompt q)
  block-styled h q r p true c =
      styled-append (meant.prompt_shown h z.styled z.prompt r.prompt true styled_shown c.prompt)
      (styled-append (meant.line_shown h q.line (chars q.line) r.line q.pos (spells-decodes q.line p.line) c.line) (note-styled h q.note r.note p.note c.note))
  block-styled h q r p false c =
      styled-append (subst (λ (x : List ℕ). Styled x z.prompt) (sym c.prompt) raw_shown)
      (styled-append (subst (λ (x : List ℕ). Styled x (chars q.line)) (sym c.line) (styled-decodes q.line p.line)) (note-raw q.note r.note p.note c.note))

  -- what holds at every moment of a run
  pub record Sane (m : Moment T H) : Type 0 where
    pub size : w.extent m.terminal ≡ z.size
    pub kept : Kept d (w.screen m.terminal)
    pub loose : z.holds ≡ false → Loose true true (w.screen m.terminal)
    pub page : Lived-page d prompt m.page
    pub shown : Shown w z m

  -- the writes of an act, with no update held
  writes-rest : (torn : Bool) (a : Act) (r : Replies) (p q : Page) → Lived-page d prompt p → Lived-page d prompt q → TextFine a
      → (draws w z a r p q ≡ true → Styled (styled_block r) (block_text prompt q)) → AllRest (writes d prompt false torn a r p q)
  unfolding AllRest
  writes-rest torn a r p q lp lq tf st = by a tf st
    where
      col : (x : Page) → cursor_col d prompt x < 2 ^ 64
      col x = let h = place-col d (block d (front_text prompt x)) (let b = broad in omega arith) in let n = z.size.narrow in omega arith

      rows : (x : Page) → Lived-page d prompt x → end_row d prompt x < 2 ^ 64
      rows x l = let h = l.proper.low in let n = z.size.low in omega arith

      crow : (x : Page) → Lived-page d prompt x → cursor_row d prompt x < 2 ^ 64
      crow x l = let h = cursor-end d prompt broad wide high x (fit d prompt good x l.proper) in let n = rows x l in omega arith

      ecol : (x : Page) → end_col d prompt x < 2 ^ 64
      ecol x = let h = place-col d (block d (block_text prompt x)) (let b = broad in omega arith) in let n = z.size.narrow in omega arith

      draw : Styled (styled_block r) (block_text prompt q) → Rests (draw_page d prompt r q)
      draw s = rests-draw d (styled_block r) (block_text prompt q) (front_text prompt q) s (rows q lq) (col q)

      erase : Rests (erase_page d prompt p)
      erase = rests-erase (end_row d prompt p - cursor_row d prompt p) (end_row d prompt p) (let n = rows p lp in omega arith)

      redrawing : Styled (styled_block r) (block_text prompt q) → AllRest (redraw d prompt false r p q)
      redrawing s = (rests-append (erase_page d prompt p) (draw_page d prompt r q) erase (draw s), tt)

      first : Styled (styled_block r) (block_text prompt q) → AllRest (first_page d prompt false r q)
      first s = (rests-append (erase_bytes 0 0) (draw_page d prompt r q) (rests-erase 0 0 (omega arith)) (draw s), tt)

      by : (a : Act) → TextFine a → (draws w z a r p q ≡ true → Styled (styled_block r) (block_text prompt q)) → AllRest (writes d prompt false torn a r p q)
      by create tf st = first (st refl)
      by (insert c n) tf st = rest-cond (direct d prompt c n r p q) (c ∷ []) (redraw d prompt false r p q) (λ e. (rests-styled c (chars c) (styled-decodes c (one-good c tf)), tt)) (λ e. redrawing (st (ap not e)))
      by (set l x) tf st = redrawing (st refl)
      by (go x) tf st = rest-cond (stays d prompt p q) [] (cond (r.yes || p.lit) (redraw d prompt false r p q) (move_page d prompt p q ∷ [])) (λ e. tt)
          (λ e. rest-cond (r.yes || p.lit) (redraw d prompt false r p q) (move_page d prompt p q ∷ []) (λ f. redrawing (st (and_from (not (stays d prompt p q)) (r.yes || p.lit) (ap not e) f)))
          (λ f. (rests-moves (cursor_row d prompt p) (cursor_col d prompt p) (cursor_row d prompt q) (cursor_col d prompt q) (crow p lp) (col p) (crow q lq) (col q), tt)))
      by refresh tf st = redrawing (st refl)
      by (message t) tf st = redrawing (st refl)
      by (notice t) tf st = (erase, (rests-styled t (chars t) (styled-decodes t tf), rest_both (close_notice d prompt t) (draw_page d prompt r q ∷ []) (rest-cond (ends_line t) [] ((10 ∷ []) ∷ []) (λ e. tt) (λ e. (rests-byte 10 (eqb-false 10 27 refl), tt))) (draw (st refl), tt)))
      by clear tf st = rest_both (let_go d prompt false torn) (clear_bytes ∷ first_page d prompt false r q) (rest-cond (torn && false) (release_bytes ∷ []) [] (λ e. absurd (clash (sym (and_right torn false refl) ∙ e))) (λ e. tt)) (rests-clear, first (st refl))
      by finish tf st = rest_both (to_end d prompt p) ((10 ∷ []) ∷ [])
          (rest-cond (eqb (cursor_row d prompt p) (end_row d prompt p) && eqb (cursor_col d prompt p) (end_col d prompt p)) [] (move_bytes (cursor_row d prompt p) (cursor_col d prompt p) (end_row d prompt p) (end_col d prompt p) ∷ []) (λ e. tt)
          (λ e. (rests-moves (cursor_row d prompt p) (cursor_col d prompt p) (end_row d prompt p) (end_col d prompt p) (crow p lp) (col p) (rows p lp) (ecol p), tt)))
          (rests-byte 10 (eqb-false 10 27 refl), tt)

  -- the screen of a page has no mark on its way
  shown-loose : (p : Page) (s : Screen) → Shows d prompt p s → Loose false false s
  shown-loose p s x = record { free = x.free; modeless = ap mode_parser x.idle; escape = λ e. absurd (clash (sym (ap escape_parser x.idle) ∙ e)); bare = λ e. absurd (clash (sym (ap bare_parser x.idle) ∙ e)) }

  untorn-is : (torn : Bool) (a : Act) → mends a ≡ false → (torn && not (mends a)) ≡ false → torn ≡ false
  untorn-is true a m e = absurd (clash (sym e ∙ ap not m))
  untorn-is false a m e = refl

  -- writes that rest keep marks away, from a page or, where clear mends, from anything
  part-loose : (m : Moment T H) (ws : List (List ℕ)) (n : ℕ) → Sane m → AllRest ws → z.holds ≡ false
      → (m.torn ≡ false) ⊎ ((vs : List (List ℕ)) × (ws ≡ clear_bytes ∷ vs)) → Loose true true (feed d (take n (joined ws)) (w.screen m.terminal))
  unfolding AllRest
  part-loose m ws n s h e (inl f) = loose-feed d (take n (joined ws)) false false (w.screen m.terminal) (calm-take n (joined ws) false false (rests-calm (joined ws) (rest-joined ws h))) (shown-loose m.page (w.screen m.terminal) (s.shown f))
  part-loose m ws n s h e (inr (vs, f)) =
      let k : AllRest (clear_bytes ∷ vs) = subst AllRest f h in
      loose-feed d (take n (joined ws)) true true (w.screen m.terminal)
      (calm-take n (joined ws) true true (ap (λ (x : List (List ℕ)). calm true true (joined x)) f ∙ calm-clear (joined vs) (rests-calm (joined vs) (rest-joined vs k.1)))) (s.loose e)

  -- where an act may begin
  begins : (m : Moment T H) (a : Act) (r : Replies) (q : Page) → (torn : Bool) → m.torn ≡ torn → (torn && not (mends a)) ≡ false → (a ≡ create → ⊥) → (m.torn ≡ false) ⊎ ((vs : List (List ℕ)) × (writes d prompt false torn a r m.page q ≡ clear_bytes ∷ vs))
  begins m a r q false e u nc = inl e
  begins m create r q true e u nc = absurd (nc refl)
  begins m (insert c n) r q true e u nc = absurd (clash (sym u))
  begins m (set l x) r q true e u nc = absurd (clash (sym u))
  begins m (go x) r q true e u nc = absurd (clash (sym u))
  begins m refresh r q true e u nc = absurd (clash (sym u))
  begins m (message t) r q true e u nc = absurd (clash (sym u))
  begins m (notice t) r q true e u nc = absurd (clash (sym u))
  begins m clear r q true e u nc = inr (first_page d prompt false r q, refl)
  begins m finish r q true e u nc = absurd (clash (sym u))

  -- the place of a go is that of its position, whatever note follows
  same-stays : (x : ℕ) (r : Replies) (p q : Page) → q ≡ gone d prompt r p (edited d prompt p.line x p) → stays d prompt p (edited d prompt p.line x p) ≡ stays d prompt p q
  same-stays x r p q e = sym (ap (stays d prompt p) e ∙ pick (stays d prompt p (edited d prompt p.line x p)) (r.yes || p.lit))
    where
      pick : (b c : Bool) → stays d z.prompt p (cond b (edited d z.prompt p.line x p) (cond c (settled d z.prompt (noted d z.prompt None p.hint r.yes (edited d z.prompt p.line x p))) (noted d z.prompt p.note p.hint r.yes (edited d z.prompt p.line x p)))) ≡ stays d z.prompt p (edited d z.prompt p.line x p)
      pick true c = refl
      pick false true = refl
      pick false false = refl

  -- the page that an accepted act leaves
  act-shows : (m : Moment T H) (a : Act) (r : Replies) (q : Page) → Sane m → Lived-page d prompt q → (a ≡ create → ⊥) → (a ≡ finish → ⊥) → (m.torn && not (mends a)) ≡ false → TextFine a
      → q ≡ page_after d prompt (w.screen m.terminal) a r true m.page → (draws w z a r m.page q ≡ true → Styled (styled_block r) (block_text prompt q))
      → Showing d prompt false q (feed_all d (writes d prompt z.holds m.torn a r m.page q) (w.screen m.terminal))
  act-shows m a r q s lq nc nf u tf e st = by a nc nf u tf e st
    where
      p : Page
      p = m.page

      scr : Screen
      scr = w.screen m.terminal

      from : (a : Act) → mends a ≡ false → (m.torn && not (mends a)) ≡ false → Showing d z.prompt false m.page (w.screen m.terminal)
      from a k u = shows-showing d prompt m.page (w.screen m.terminal) (s.shown (untorn-is m.torn a k u))

      keep : (a : Act) → mends a ≡ false → (m.torn && not (mends a)) ≡ false → (x : Page) → q ≡ settled d z.prompt x → x.base ≡ m.page.base → x.upper ≡ m.page.upper → x.window ≡ m.page.window
          → Styled (styled_block r) (block_text z.prompt q) → Showing d z.prompt false q (feed_all d (redraw d z.prompt z.holds r m.page q) (w.screen m.terminal))
      keep a k u x e eb eu ew st = anew d prompt good broad wide high tall z.holds r m.page q (w.screen m.terminal) (from a k u) s.page lq (ap (λ (y : Page). y.base) e ∙ eb) (ap (λ (y : Page). y.upper) e ∙ eu)
          (ap (λ (y : Page). y.window) e ∙ ap (λ n. max n (suc (x.base + end_row d prompt (settled d prompt x)) - d.rows)) ew ∙ ap (λ (y : Page). max m.page.window (suc (y.base + end_row d prompt y) - d.rows)) (sym e)) st

      by : (a : Act) → (a ≡ create → ⊥) → (a ≡ finish → ⊥) → (m.torn && not (mends a)) ≡ false → TextFine a → q ≡ page_after d z.prompt (w.screen m.terminal) a r true m.page → (draws w z a r m.page q ≡ true → Styled (styled_block r) (block_text z.prompt q))
          → Showing d z.prompt false q (feed_all d (writes d z.prompt z.holds m.torn a r m.page q) (w.screen m.terminal))
      by create nc nf u tf e st = absurd (nc refl)
      by (insert c n) nc nf u tf e st =
          shows-insert d prompt good broad wide high tall z.holds c n r m.page q (w.screen m.terminal) e (from (insert c n) refl u) s.page lq meant.controls tf st (direct d prompt c n r m.page q) refl
      by (set l x) nc nf u tf e st = keep (set l x) refl u _ e refl refl refl (st refl)
      by (go x) nc nf u tf e st =
          shows-go d prompt good broad wide high tall z.holds x r m.page q (w.screen m.terminal) e (from (go x) refl u) s.page lq st (stays d prompt m.page q) (r.yes || m.page.lit) (same-stays x r m.page q e) refl refl
      by refresh nc nf u tf e st = keep refresh refl u _ e refl refl refl (st refl)
      by (message t) nc nf u tf e st = keep (message t) refl u _ e refl refl refl (st refl)
      by (notice t) nc nf u tf e st = shows-notice d prompt good broad wide high tall z.holds t r m.page q (w.screen m.terminal) e (from (notice t) refl u) s.page lq tf (st refl)
      by clear nc nf u tf e st =
          shows-clear d prompt good broad wide high tall z.holds m.torn r m.page q (w.screen m.terminal) e s.kept (λ f. (s.shown f).free) (λ f. (s.loose f).free) lq (st refl) (kept-feed d tall broad meant.narrow)
      by finish nc nf u tf e st = absurd (nf refl)

  -- what an act that no rule refused leaves, whatever its writes answered
  abbrev act-writes : (m n : Moment T H) (a : Act) (r : Result Unit BrokenAct) → Went w z m a r n → List (List ℕ)
  act-writes m n a r g = writes d prompt z.holds m.torn a g.replies m.page n.page

  through : (m n : Moment T H) (a : Act) (r : Result Unit BrokenAct) (g : Went w z m a r n) → w.extent m.terminal ≡ z.size → Worked-through w meant z.size m.terminal (act-writes m n a r g) r n.terminal
  through m n a r g e = delivered w meant z.size m.terminal n.terminal (act-writes m n a r g) r e g.written

  lies-styled : (m n : Moment T H) (a : Act) (r : Result Unit BrokenAct) (g : Went w z m a r n) → Lived-page d prompt n.page → draws w z a g.replies m.page n.page ≡ true → Styled (styled_block g.replies) (block_text prompt n.page)
  lies-styled m n a r g l e = block-styled n.highlighter n.page g.replies l.proper z.colours (g.styled e)

  -- the held mark stays away where none is ever set
  left-loose : (m n : Moment T H) (a : Act) (r : Result Unit BrokenAct) (g : Went w z m a r n) (s : Sane m) → Lived-page d prompt n.page → (a ≡ create → ⊥) → (m.torn && not (mends a)) ≡ false → TextFine a → z.holds ≡ false → Loose true true (w.screen n.terminal)
  left-loose m n a r g s l nc u tf e =
      let x = through m n a r g s.size in
      let same : act-writes m n a r g ≡ writes d prompt false m.torn a g.replies m.page n.page = ap (λ h. writes d prompt h m.torn a g.replies m.page n.page) e in
      let ws = writes d prompt false m.torn a g.replies m.page n.page in
      subst (Loose true true) (sym (x.part ∙ ap (λ (v : List (List ℕ)). feed d (take x.count (joined v)) (w.screen m.terminal)) same))
      (part-loose m ws x.count s (writes-rest m.torn a g.replies m.page n.page s.page l tf (lies-styled m n a r g l)) e (begins m a g.replies n.page m.torn refl u nc))

  left-kept : (m n : Moment T H) (a : Act) (r : Result Unit BrokenAct) (g : Went w z m a r n) → w.extent m.terminal ≡ z.size → Kept d (w.screen m.terminal) → Kept d (w.screen n.terminal)
  left-kept m n a r g e k = let x = through m n a r g e in subst (Kept d) (sym x.part) (kept-feed d tall broad meant.narrow (take x.count (joined (act-writes m n a r g))) (w.screen m.terminal) k)

  err-ok : (r : Result Unit BrokenAct) → is_err r ≡ false → is_ok r ≡ true
  err-ok (Ok u) e = refl
  err-ok (Err b) e = absurd (clash (sym e))

  -- every act but create and an accepted finish
  went-sane : (m n : Moment T H) (a : Act) (r : Result Unit BrokenAct) → Sane m → (a ≡ create → ⊥) → (a ≡ finish → is_ok r ≡ false) → Admitted d prompt m.torn (SizeFine w z m) a m.page → Went w z m a r n → Sane n
  went-sane m n a r s nc nf ad g =
      let x = through m n a r g s.size in
      let l : Lived-page d prompt n.page = subst (Lived-page d prompt) (sym g.page) (after-proper d prompt (w.screen m.terminal) a g.replies (is_ok r) m.page nc nf g.hint_fine ad.text ad.place ad.height s.page) in
      record {
        size = x.size;
        kept = left-kept m n a r g s.size s.kept;
        loose = λ e. left-loose m n a r g s l nc ad.untorn ad.text e;
        page = l;
        shown = λ t. let o = err-ok r (sym g.torn ∙ t) in
            showing-shows d prompt n.page (w.screen n.terminal) (subst (Showing d prompt false n.page) (sym (x.all o))
            (act-shows m a g.replies n.page s l nc (λ f. absurd (clash (sym (nf f) ∙ o))) ad.untorn ad.text (g.page ∙ ap (λ b. page_after d prompt (w.screen m.terminal) a g.replies b m.page) o) (lies-styled m n a r g l)));
      }

  refused-sane : (m n : Moment T H) → Sane m → n ≡ m → Sane n
  refused-sane m n s e = subst Sane (sym e) s

  -- a step of the law: every act but create and an accepted finish
  abbrev pub Ends-run : Act → Outcome → Type 0
  Ends-run a o = (a ≡ finish) × (o ≡ Ok tt)

  pub step-sane : (m n : Moment T H) (a : Act) (o : Outcome) → Sane m → (a ≡ create → ⊥) → (Ends-run a o → ⊥) → Stepped w z m a o n → Sane n
  step-sane m n a (Ok u) s nc ne st = went-sane m n a (Ok tt) s nc (λ f. absurd (ne (f, refl))) (admitted d prompt m.torn (SizeFine w z m) a m.page st.0) st.1
  step-sane m n a (Err (Refused e)) s nc ne st = refused-sane m n s st.1
  step-sane m n a (Err (Broke b)) s nc ne st = went-sane m n a (Err b) s nc (λ f. refl) (admitted d prompt m.torn (SizeFine w z m) a m.page st.0) st.1

  -- an accepted finish: the page stands, closed, and the terminal is ready
  pub finish-shown : (m n : Moment T H) → Sane m → Stepped w z m finish (Ok tt) n → Shown w z n × Ready (w.screen n.terminal)
  finish-shown m n s st =
      let g = st.1 in
      let ad = admitted d prompt m.torn (SizeFine w z m) finish m.page st.0 in
      let x = through m n finish (Ok tt) g s.size in
      let f = fit d prompt good m.page s.page.proper in
      let here = shows-showing d prompt m.page (w.screen m.terminal) (s.shown (untorn-is m.torn finish refl ad.untorn)) in
      let there : Showing d prompt false (closed d prompt m.page) (w.screen n.terminal) = subst (Showing d prompt false (closed d prompt m.page)) (sym (x.all refl)) (finished d prompt broad wide high m.page (w.screen m.terminal) here f) in (
        (λ t. subst (λ (q : Page). Shows d prompt q (w.screen n.terminal)) (sym g.page) (showing-shows d prompt (closed d prompt m.page) (w.screen n.terminal) there)),
        finished-ready d prompt broad wide high m.page (w.screen n.terminal) f there,
      )

  -- create on a ready terminal of the checked size
  ready-kept : (t : T) → w.extent t ≡ z.size → Ready (w.screen t) → Kept d (w.screen t)
  ready-kept t e r =
      let i = subst (λ x. Inside (geometry w.columns x) (w.screen t)) e (meant.inside t) in
      record { above = i.above; inside = i.below; fits = i.left; below = λ a b h. r.blank a b (let u = i.below in omega arith) }

  create-shown : (m n : Moment T H) (g : Went w z m create (Ok tt) n) → Kept d (w.screen m.terminal) → w.extent m.terminal ≡ z.size → Ready (w.screen m.terminal) → Lived-page d prompt n.page → Shows d prompt n.page (w.screen n.terminal)
  create-shown m n g k e rd l =
      let x = through m n create (Ok tt) g e in
      let s = w.screen m.terminal in
      let eb : n.page.base ≡ s.pen.row = ap (λ (y : Page). y.base) g.page in
      let eu : n.page.upper ≡ s.pen.paper = ap (λ (y : Page). y.upper) g.page in
      let ew : n.page.window ≡ max s.top (suc (n.page.base + end_row d prompt n.page) - d.rows) = ap (λ (y : Page). y.window) g.page ∙ ap (λ (y : Page). max s.top (suc (y.base + end_row d prompt y) - d.rows)) (sym g.page) in
      let c : Clean d prompt broad wide high n.page.base n.page.upper s.top s =
      record { paper = sym (over-blank s.pen.row s.pen.paper rd.blank) ∙ (λ i. cut (sym eb i) (sym eu i)); row = sym eb; above = subst (λ b. s.top ≤ b) (sym eb) k.above; inside = subst (λ b. b < s.top + d.rows) (sym eb) k.inside; window = refl; idle = rd.finished } in
      showing-shows d prompt n.page (w.screen n.terminal) (subst (Showing d prompt false n.page) (sym (x.all refl))
      (shows_first d prompt good broad wide high tall z.holds g.replies n.page s.top s c rd.free l ew (lies-styled m n create (Ok tt) g l refl)))

  ready-loose : (s : Screen) → Ready s → Loose false false s
  ready-loose s r = record { free = r.free; modeless = ap mode_parser r.finished; escape = λ e. absurd (clash (sym (ap escape_parser r.finished) ∙ e)); bare = λ e. absurd (clash (sym (ap bare_parser r.finished) ∙ e)) }

  created-sane : (m n : Moment T H) (r : Result Unit BrokenAct) → w.extent m.terminal ≡ z.size → Ready (w.screen m.terminal) → HeightFine d prompt create m.page → Went w z m create r n → Sane n
  unfolding AllRest
  created-sane m n r e rd hf g =
      let k = ready-kept m.terminal e rd in
      let x = through m n create r g e in
      let l : Lived-page d prompt n.page = subst (Lived-page d prompt) (sym g.page) (created-proper d prompt (w.screen m.terminal) g.replies (is_ok r) m.page g.hint_fine hf k.above) in
      record {
        size = x.size;
        kept = left-kept m n create r g e k;
        loose = λ h.
            let ws = writes d prompt false m.torn create g.replies m.page n.page in
            let rest : AllRest ws = first_rest g.replies n.page l (lies-styled m n create r g l refl) in
            subst (Loose true true) (sym (x.part ∙ ap (λ b. feed d (take x.count (joined (writes d prompt b m.torn create g.replies m.page n.page))) (w.screen m.terminal)) h))
            (loose-feed d (take x.count (joined ws)) false false (w.screen m.terminal) (calm-take x.count (joined ws) false false (rests-calm (joined ws) (rest-joined ws rest))) (ready-loose (w.screen m.terminal) rd));
        page = l;
        shown = λ t. by r g l t;
      }
    where
      by : (r : Result Unit BrokenAct) → (g : Went w z m create r n) → Lived-page d z.prompt n.page → n.torn ≡ false → Shows d z.prompt n.page (w.screen n.terminal)
      by (Ok u) g l t = create-shown m n g (ready-kept m.terminal e rd) e rd l
      by (Err b) g l t = absurd (clash (sym t ∙ g.torn))

      first_rest : (r : Replies) (q : Page) → Lived-page d z.prompt q → Styled (styled_block r) (block_text z.prompt q) → AllRest (first_page d z.prompt false r q)
      first_rest r q l s =
          let h = l.proper.low in let n = z.size.low in
          let c = place-col d (block d (front_text prompt q)) (let b = broad in omega arith) in let v = z.size.narrow in
          (rests-append (erase_bytes 0 0) (draw_page d prompt r q) (rests-erase 0 0 (omega arith)) (rests-draw d (styled_block r) (block_text prompt q) (front_text prompt q) s (omega arith) (omega arith)), tt)

  pub create-sane : (m n : Moment T H) (o : Outcome) → w.extent m.terminal ≡ z.size → Ready (w.screen m.terminal) → ((e : Refusal) → o ≡ Err (Refused e) → ⊥) → Stepped w z m create o n → Sane n
  create-sane m n (Ok u) e rd nr st = created-sane m n (Ok tt) e rd (admitted d prompt m.torn (SizeFine w z m) create m.page st.0).height st.1
  create-sane m n (Err (Refused x)) e rd nr st = absurd (nr x refl)
  create-sane m n (Err (Broke b)) e rd nr st = created-sane m n (Err b) e rd (admitted d prompt m.torn (SizeFine w z m) create m.page st.0).height st.1
