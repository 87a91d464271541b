-- What the writes of a drawing do to a screen that shows a page.
use Rattle.std.proofs.Common.{◌≡◌, ℕ, suc, ◌+◌, ◌-◌, ◌<◌, ◌≤◌, max, Bool, false, cond, List, [], ◌∷◌, ◌++◌, drop, None, sym, refl, ap, ◌∙◌, subst, arith}
use Rattle.page.specs.Acts.{Replies}
use Rattle.page.specs.Output.{draw_page, erase_page, styled_block}
use Rattle.page.specs.Page.{Page, Shows, block_text, cursor_col, cursor_row, end_row, front_text, note_text, screen_col, screen_row}
use Rattle.screen.proofs.Erasing.{cut, stand}
use Rattle.screen.proofs.Heights.{draw-append, place-draw}
use Rattle.screen.proofs.Refreshing.{drawn-is, erase-page, view}
use Rattle.screen.specs.Bytes.{feed}
use Rattle.screen.specs.Output.{draw_bytes}
use Rattle.screen.specs.Pages.{OnScreen}
use Rattle.screen.specs.Screen.{Geometry, Screen, blank_pen, block, over, place_row}
use Rattle.screen.specs.declared.cells.Parser.TheVariants.{Ground}
use Rattle.std.specs.Str.{chars}
use Rattle.text.proofs.Spelling.{all-good-parts}
use Rattle.text.specs.Characters.{AllGood}
use Rattle.text.specs.Texts.{Styled}

-- writes, one after the other
abbrev pub feed_all : Geometry → List (List ℕ) → Screen → Screen
feed_all d [] s = s
feed_all d (w ∷ ws) s = feed_all d ws (feed d w s)

pub feed_all-append : (d : Geometry) (vs ws : List (List ℕ)) (s : Screen) → feed_all d (vs ++ ws) s ≡ feed_all d ws (feed_all d vs s)
feed_all-append d [] ws s = refl
feed_all-append d (v ∷ vs) ws s = feed_all-append d vs ws (feed d v s)

-- a screen with nothing unfinished, by its parts
pub view-is : (s : Screen) → s.parser ≡ Ground → s ≡ view s.pen.paper s.pen.row s.pen.col s.pen.join s.top s.held
view-is s e = λ i. record { pen = s.pen; top = s.top; held = s.held; parser = e i }

-- the characters behind the edit position
abbrev pub back_text : Page → List ℕ
back_text p = chars (drop p.pos p.line) ++ note_text p.note

module _ (d : Geometry) (prompt : List ℕ) where
  -- the screen shows the page, an update being held or not
  pub record Showing (h : Bool) (p : Page) (s : Screen) : Type 0 where
    pub paper : s.pen.paper ≡ over p.base p.upper (block d (block_text prompt p)).paper
    pub row : s.pen.row ≡ screen_row d prompt p
    pub col : s.pen.col ≡ screen_col d prompt p
    pub window : s.top ≡ p.window
    pub held : s.held ≡ h
    pub idle : s.parser ≡ Ground

  pub shows-showing : (p : Page) (s : Screen) → Shows d prompt p s → Showing false p s
  shows-showing p s w = record { paper = w.paper; row = w.row; col = w.col; window = w.window; held = w.free; idle = w.idle }

  pub showing-shows : (p : Page) (s : Screen) → Showing false p s → Shows d prompt p s
  showing-shows p s w = record { paper = w.paper; row = w.row; col = w.col; window = w.window; free = w.held; idle = w.idle }

  -- a page that fits its window
  pub record Fit (p : Page) : Type 0 where
    pub parts : block_text prompt p ≡ front_text prompt p ++ back_text p
    pub good : AllGood (block_text prompt p)
    pub low : end_row d prompt p < d.rows
    pub shown : p.window ≤ p.base
    pub tall : p.base + end_row d prompt p < p.window + d.rows
    pub live : p.ended ≡ false

  module _ (broad : 2 ≤ d.cols) (wide : d.cols ≤ 9999) (high : d.rows ≤ 9999) where
    -- the edit position is not below the end
    pub cursor-end : (p : Page) → Fit p → cursor_row d prompt p ≤ end_row d prompt p
    cursor-end p f = rw (f.parts, draw-append d (front_text prompt p) (back_text p) blank_pen) (place-draw d (back_text p) (block d (front_text prompt p)) (all-good-parts (front_text prompt p) (back_text p) (subst AllGood f.parts f.good)).1 (omega arith))

    pub live-row : (p : Page) → p.ended ≡ false → screen_row d prompt p ≡ p.base + cursor_row d prompt p
    live-row p e = ap (λ b. p.base + cond b (suc (end_row d prompt p)) (cursor_row d prompt p)) e

    pub live-col : (p : Page) → p.ended ≡ false → screen_col d prompt p ≡ cursor_col d prompt p
    live-col p e = ap (λ b. cond b 0 (cursor_col d prompt p)) e

    -- a live page on a screen, as the laws of the screen have it
    on-screen : (h : Bool) (p : Page) (s : Screen) → Showing h p s → Fit p → OnScreen d p.base p.upper (block_text prompt p) (cursor_row d prompt p) (cursor_col d prompt p) s
    on-screen h p s w f = record { idle = w.idle; paper = w.paper; line = w.row ∙ live-row p f.live; place = w.col ∙ live-col p f.live; shown = rw w.window f.shown; tall = rw w.window f.tall }

    -- the block is erased
    pub erased-page : (h : Bool) (p : Page) (s : Screen) → Showing h p s → Fit p → feed d (erase_page d prompt p) s ≡ stand (cut p.base p.upper) p.base s
    erased-page h p s w f = erase-page d p.base p.upper (block_text prompt p) (cursor_row d prompt p) (cursor_col d prompt p) s high (on-screen h p s w f) (cursor-end p f)

    -- a block is drawn where nothing stands
    pub drawn-page : (r : Replies) (q : Page) (s : Screen) → Fit q → Styled (styled_block r) (block_text prompt q) → s.top ≤ q.base → q.base < s.top + d.rows
        → q.window ≡ max s.top (suc (q.base + end_row d prompt q) - d.rows)
        → Showing s.held q (feed d (draw_page d prompt r q) (stand (cut q.base q.upper) q.base s))
    drawn-page r q s f st above inside win =
        let e = f.parts in
        let is : feed d (draw_page d prompt r q) (stand (cut q.base q.upper) q.base s) ≡ view (over q.base q.upper (block d (block_text prompt q)).paper) (q.base + cursor_row d prompt q) (cursor_col d prompt q) None (max s.top (suc (q.base + end_row d prompt q) - d.rows)) s.held =
        subst (λ (cs : List ℕ). feed d (draw_bytes d (styled_block r) cs (front_text prompt q)) (stand (cut q.base q.upper) q.base s) ≡ view (over q.base q.upper (block d cs).paper) (q.base + cursor_row d prompt q) (cursor_col d prompt q) None (max s.top (suc (q.base + place_row d (block d cs)) - d.rows)) s.held) (sym e)
        (drawn-is d q.base q.upper s (styled_block r) (front_text prompt q) (back_text q) (omega arith) wide high above inside (subst (Styled (styled_block r)) e st) (subst (λ (cs : List ℕ). place_row d (block d cs) < d.rows) e f.low)) in
        subst (Showing s.held q) (sym is) (record { paper = refl; row = sym (live-row q f.live); col = sym (live-col q f.live); window = sym win; held = refl; idle = refl })
