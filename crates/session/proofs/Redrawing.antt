-- A line drawn anew with the hinter's answer: the page that follows, and what the session then holds.
use Rattle.std.proofs.Common.{◌≡◌, ℕ, ◌-◌, ◌<◌, Bool, true, false, cond, not, ◌&&◌, List, [], ◌∷◌, ◌++◌, is_ok, is_err, Some, None, Ok, Err, Option, Result, sym, refl, ap, ◌∙◌, subst, arith}
use Rattle.judging.specs.Fitting.{Fits, LaidOut}
use Rattle.judging.specs.Judgements.{Behind, Low, PlacedFor}
use Rattle.layout.specs.Laying.{LaidAs, corner}
use Rattle.layout.specs.declared.block.Layout.{Layout}
use Rattle.lines.specs.Lines.{Holds, line_of}
use Rattle.lines.specs.Notes.{note_of}
use Rattle.lines.specs.Prompts.{raw_of, styled_of}
use Rattle.lines.specs.declared.line_buffer.LineBuffer.{LineBuffer}
use Rattle.lines.specs.declared.prompt.Prompt.{Prompt}
use Rattle.measuring.specs.Measured.{NoteFine}
use Rattle.judging.specs.declared.judging.Placed.{Placed}
use Rattle.page.proofs.Admitting.{Admitted, admitted}
use Rattle.page.proofs.Propriety.{Bare-low, Fitted, fitted-is}
use Rattle.page.proofs.Spelt.{good_none}
use Rattle.page.specs.Acts.{Act, Replies, asks_hinter, edited, fitted, hinted, line_after, page_after, pos_after}
use Rattle.page.specs.Law.{Asks, Heeds, Moment, Settings, StyledBy, World, Written}
use Rattle.page.specs.Output.{draw_page, framed, redraw, writes}
use Rattle.page.specs.Page.{Page}
use Rattle.page.specs.Rules.{AtBoundary, HeightFine, mends}
use Rattle.page.specs.declared.outcome.BrokenAct.{BrokenAct}
use Rattle.render.specs.Drawing.{Styles, Texts, draw_layout, erase_layout, old_rows, texts_of}
use Rattle.screen.specs.Output.{erase_bytes}
use Rattle.screen.specs.Screen.{Geometry, blank_paper, block, place_row}
use Rattle.session.proofs.Acting.{WentBuffered, went-acted}
use Rattle.session.proofs.Heights.{open-shown, tall-never}
use Rattle.session.proofs.Layouts.{laid-draws, laid-erases, page_texts, replies_of, styled-page}
use Rattle.session.specs.Acting.{Acted, LeavesLayout, outcome_of}
use Rattle.session.specs.Asking.{with_lit}
use Rattle.session.specs.Buffering.{buffer_after, buffer_of, redrawing}
use Rattle.session.specs.Judging.{JudgesEnds}
use Rattle.session.specs.Painting.{Painted, drawn_to}
use Rattle.session.specs.Preparing.{Prepared}
use Rattle.session.specs.Sessions.{Shown, Sound, State, View, is_torn, moment_of, page_of, prompt_of, settings_of}
use Rattle.session.specs.Styling.{StyledTexts}
use Rattle.session.specs.declared.session.Session.{Session}
use Rattle.session.specs.declared.tables.Tables.{Tables}
use Rattle.std.proofs.lemmas.Str.{chars-nil}
use Rattle.std.specs.Str.{chars}
use Rattle.terminal.specs.Windows.{geometry}
use Rattle.terminal.specs.Answers.{WriteAnswer}
use Rattle.text.specs.Texts.{GoodText}

-- what a drawing leaves of a session's numbers
pub drawn-torn : (l : Layout) (s : Session) (r : Result Unit BrokenAct) → is_torn (drawn_to l s r).standing ≡ is_err r
drawn-torn l s (Ok u) = refl
drawn-torn l s (Err b) = refl

pub drawn-lit : (l : Layout) (s : Session) (r : Result Unit BrokenAct) → (drawn_to l s r).lit ≡ s.lit
drawn-lit l s (Ok u) = refl
drawn-lit l s (Err b) = refl

-- a broken drawing leaves the layout as it was
pub drawn-layout : (l : Layout) (s : Session) (r : Result Unit BrokenAct) → is_err r ≡ true → (drawn_to l s r).layout ≡ s.layout
drawn-layout l s (Ok u) e = absurd (let z : ◌≡◌ {A = ℕ} 0 1 = cc in omega arith)
drawn-layout l s (Err b) e = refl

pub drawn-settings : (l : Layout) (s : Session) (b : Tables) (r : Result Unit BrokenAct) → settings_of (drawn_to l s r) b ≡ settings_of s b
drawn-settings l s b (Ok u) = refl
drawn-settings l s b (Err e) = refl

pub settings-prompt : (s : Session) (b c : Tables) → c.prompt ≡ b.prompt → settings_of s c ≡ settings_of s b
settings-prompt s b c e i = record { size = s.size; begun = s.begun; raw = raw_of (e i); styled = styled_of (e i); prompt = prompt_of (record { prompt = e i; line = b.line; note = b.note; hint = b.hint; renderer = b.renderer }); colours = s.colours; holds = s.holds }

pub note-good : (o : Option (List ℕ)) → NoteFine o → (t : List ℕ) → o ≡ Some t → GoodText t
note-good None f t e = absurd (let z : ◌≡◌ {A = ℕ} 0 1 = cc in omega arith)
note-good (Some u) f t e = subst GoodText (same u t e) f.0
  where
    same : (u t : List ℕ) → Some u ≡ Some t → u ≡ t
    same u t e = cc

pub low-bare : (d : Geometry) (ps line : List ℕ) → Low d ps line [] → Bare-low d ps line
low-bare d ps line h = subst (λ (x : List ℕ). place_row d (block d (ps ++ (chars line ++ x))) < d.rows) chars-nil h

-- a torn session takes only what mends it
pub untorn : (b m : Bool) → m ≡ false → (b && not m) ≡ false → b ≡ false
untorn true m e h = sym (ap not e) ∙ h
untorn false m e h = refl

-- nothing above the block
abbrev pub bare_view : View
bare_view = record { upper = blank_paper; base = 0; window = 0 }

-- what writes leave of a session and its tables, but for the draw buffer
pub record Left (l : Layout) (s : Session) (c : Tables) (r : Result Unit BrokenAct) (t : Session) (b : Tables) : Type 0 where
  pub session : t ≡ drawn_to l s r
  pub prompt : b.prompt ≡ c.prompt
  pub line : b.line ≡ c.line
  pub note : b.note ≡ c.note
  pub hint : b.hint ≡ c.hint

-- a drawing leaves this
pub painted-left : {T : Type 0} {answered : T → List ℕ → WriteAnswer → T → Type 0} {lights : List ℕ → ℕ → List ℕ → Type 0} {lights_prompt : List ℕ → Bool → List ℕ → Type 0} {lights_hint : List ℕ → List ℕ → Type 0}
    {l : Layout} {s : Session} {c : Tables} {x : T} {r : Result Unit BrokenAct} {t : Session} {b : Tables} {y : T} → Painted answered lights lights_prompt lights_hint l s c x r t b y → Left l s c r t b
painted-left p = record { session = p.session; prompt = p.prompt; line = p.line; note = p.note; hint = p.hint }

-- where nothing is drawn, one row is erased
pub corner-erases : (l : Layout) → LaidAs 1 corner corner corner l → erase_layout l ≡ erase_bytes 0 0
corner-erases l k i = erase_bytes ((k.end i).row - (k.cursor i).row) (k.end i).row

-- from a session x, whose tables have taken the line ln and the position pos, to y, with an act's end r
module _ {T H : Type 0} (w : World T H) (x y : State T H) (ln : List ℕ) (pos : ℕ) (e : Placed) (l : Layout) (s : Session) (b c : Tables) (r : Result Unit BrokenAct)
    (held : Holds ln pos b.line) (same : b.prompt ≡ x.tables.prompt)
    (prep : Prepared w e x.highlighter x.session b l s c y.highlighter)
    (left : Left l s c r y.session y.tables) (styles : Styles) where
  abbrev z : Settings
  z = settings_of x.session x.tables

  abbrev d : Geometry
  d = geometry w.columns x.session.size

  abbrev ps : List ℕ
  ps = prompt_of x.tables

  abbrev hint : Option (List ℕ)
  hint = w.hints ln pos

  -- what was asked of whom, and how it is drawn
  abbrev pub replies : Replies
  replies = replies_of hint s.lit (styles)

  lit-same : s ≡ with_lit s.lit x.session
  lit-same = prep.asked.session

  pub redrawn-holds : s.holds ≡ x.session.holds
  redrawn-holds = ap (λ (t : Session). t.holds) lit-same

  prompt-same : y.tables.prompt ≡ x.tables.prompt
  prompt-same = left.prompt ∙ prep.prompt ∙ same

  line_same : y.tables.line ≡ b.line
  line_same = left.line ∙ prep.line

  -- what was settled stays
  pub redrawn-settings : settings_of y.session y.tables ≡ z
  redrawn-settings =
      ap (λ (t : Session). settings_of t y.tables) left.session ∙ drawn-settings l s y.tables r
      ∙ ap (λ (t : Session). settings_of t y.tables) lit-same ∙ settings-prompt x.session x.tables y.tables prompt-same

  -- and, broken, the layout
  pub redrawn-layout : is_err r ≡ true → y.session.layout ≡ x.session.layout
  redrawn-layout broken = ap (λ (t : Session). t.layout) left.session ∙ drawn-layout l s r broken ∙ ap (λ (t : Session). t.layout) lit-same

  hint-is : w.hints (line_of b.line) b.line.pos ≡ hint
  hint-is i = w.hints (held.0 i) (held.1 i)

  pub hint-fine : (t : List ℕ) → hint ≡ Some t → GoodText t
  hint-fine t q = note-good hint (subst NoteFine hint-is prep.fine) t q

  module _ (sound : Sound w.columns x.session x.tables) (good : GoodText ln) (place : AtBoundary ln pos) (placed : PlacedFor w.columns x.session.size ps ln pos e) (low : Low d ps ln []) where
    fits : Fits d ps ln pos hint l (note_of c.hint)
    fits = subst (λ (o : Option (List ℕ)). Fits d ps ln pos o l (note_of c.hint)) hint-is
        (prep.hint ps ln pos (record { behind = sound.prompt; text = good; place = place; placed = placed; low = low }))

    pub note-is : note_of y.tables.note ≡ fitted d ps ln hint
    note-is = ap note_of left.note ∙ prep.note ∙ fits.hint

    hint-now : note_of y.tables.hint ≡ fitted d ps ln hint
    hint-now = ap note_of left.hint ∙ fits.hint

    laid : LaidOut d ps ln pos (fitted d ps ln hint) l
    laid = subst (λ (o : Option (List ℕ)). LaidOut d ps ln pos o l) fits.hint fits.laid

    fit : Fitted d ps ln (fitted d ps ln hint)
    fit = fitted-is d ps ln hint hint-fine (low-bare d ps ln low)

    -- the page drawn, from another that has its upper rows
    abbrev pub page_next : Page → Page
    page_next p = hinted d ps replies (edited d ps ln pos p)

    -- the session's page is that page
    pub redrawn-moment : (p : Page) → p.ended ≡ false
        → moment_of y (record { upper = p.upper; base = p.base; window = (page_next p).window }) ≡ record { terminal = y.terminal; highlighter = y.highlighter; page = page_next p; torn = is_err r }
    redrawn-moment p live i = record {
      terminal = y.terminal;
      highlighter = y.highlighter;
      page = record {
        line = (ap line_of line_same ∙ held.0) i;
        pos = (ap (λ (q : LineBuffer). q.pos) line_same ∙ held.1) i;
        note = note-is i;
        hint = hint-now i;
        lit = (ap (λ (t : Session). t.lit) left.session ∙ drawn-lit l s r) i;
        upper = p.upper;
        base = p.base;
        window = (page_next p).window;
        ended = sym live i;
      };
      torn = (ap (λ (t : Session). is_torn t.standing) left.session ∙ drawn-torn l s r) i;
    }

    pub redrawn-heeds : (p : Page) → Heeds w z w.heeds_other x.highlighter (page_next p).line (page_next p).pos s.lit y.highlighter
    redrawn-heeds p = subst (λ (n : ℕ). Heeds w z w.heeds_other x.highlighter ln n s.lit y.highlighter) held.1 (subst (λ (t : List ℕ). Heeds w z w.heeds_other x.highlighter t b.line.pos s.lit y.highlighter) held.0 prep.asked.heard)

    texts-same : (p : Page) → texts_of c.prompt c.line c.note ≡ page_texts z (page_next p)
    texts-same p i = record {
      raw = raw_of ((prep.prompt ∙ same) i);
      styled = styled_of ((prep.prompt ∙ same) i);
      line = (ap line_of prep.line ∙ held.0) i;
      pos = (ap (λ (q : LineBuffer). q.pos) prep.line ∙ held.1) i;
      note = (prep.note ∙ fits.hint) i;
    }

    pub redrawn-styled : StyledTexts (w.lights y.highlighter) (w.lights_prompt y.highlighter) (w.lights_hint y.highlighter) s.colours (texts_of c.prompt c.line c.note) styles
        → (p : Page) → StyledBy w z y.highlighter (page_next p) replies
    redrawn-styled drawn p =
        styled-page w z y.highlighter (page_next p) hint s.lit (styles)
        (subst (λ (t : Session). StyledTexts (w.lights y.highlighter) (w.lights_prompt y.highlighter) (w.lights_hint y.highlighter) t.colours (page_texts z (page_next p)) (styles)) lit-same
        (subst (λ (t : Texts). StyledTexts (w.lights y.highlighter) (w.lights_prompt y.highlighter) (w.lights_hint y.highlighter) s.colours t (styles)) (texts-same p) drawn))

    pub redrawn-written : Written w.answered x.terminal (framed s.holds ((old_rows (Some s.layout) ++ draw_layout styles l) ∷ [])) r y.terminal
        → (p : Page) → Written w.answered x.terminal (framed x.session.holds ((erase_layout x.session.layout ++ draw_page d ps replies (page_next p)) ∷ [])) r y.terminal
    redrawn-written drawn p =
        subst (λ (bs : List ℕ). Written w.answered x.terminal (framed x.session.holds ((erase_layout x.session.layout ++ bs) ∷ [])) r y.terminal) (laid-draws d ps (page_next p) l laid replies)
        (subst (λ (t : Session). Written w.answered x.terminal (framed t.holds ((erase_layout t.layout ++ draw_layout (styles) l) ∷ [])) r y.terminal) lit-same drawn)

    -- and the session still belongs to its tables
    pub redrawn-sound : Sound w.columns y.session y.tables
    redrawn-sound = subst (λ (t : Session). Sound w.columns t y.tables) (sym (left.session ∙ ap (λ (t : Session). drawn_to l t r) lit-same)) (by r)
      where
        behind : Behind w.columns x.session.size (prompt_of y.tables) x.session.prompt
        behind = subst (λ (q : Prompt). Behind w.columns x.session.size (prompt_of (record { prompt = q; line = x.tables.line; note = x.tables.note; hint = x.tables.hint; renderer = x.tables.renderer })) x.session.prompt) (sym prompt-same) sound.prompt

        shown : Shown d ps ln pos (fitted d ps ln hint) (fitted d ps ln hint) l
        shown = record { line = low; hint = fit.low; whole = fit.low; laid = laid }

        at : (q : Prompt) → q ≡ x.tables.prompt → (t : List ℕ) → t ≡ ln → (n : ℕ) → n ≡ pos → (o : Option (List ℕ)) → o ≡ fitted d ps ln hint → (u : Option (List ℕ)) → u ≡ fitted d ps ln hint
            → Shown d (prompt_of (record { prompt = q; line = x.tables.line; note = x.tables.note; hint = x.tables.hint; renderer = x.tables.renderer })) t n o u l
        at q a t f n g o h u k =
            let s1 = subst (λ (v : Option (List ℕ)). Shown d ps ln pos v (fitted d ps ln hint) l) (sym h) shown in
            let s2 = subst (λ (v : Option (List ℕ)). Shown d ps ln pos o v l) (sym k) s1 in
            let s3 = subst (λ (v : ℕ). Shown d ps ln v o u l) (sym g) s2 in
            let s4 = subst (λ (v : List ℕ). Shown d ps v n o u l) (sym f) s3 in
            subst (λ (v : Prompt). Shown d (prompt_of (record { prompt = v; line = x.tables.line; note = x.tables.note; hint = x.tables.hint; renderer = x.tables.renderer })) t n o u l) (sym a) s4

        now-shown : Shown d (prompt_of y.tables) (line_of y.tables.line) y.tables.line.pos (note_of y.tables.note) (note_of y.tables.hint) l
        now-shown = at y.tables.prompt prompt-same (line_of y.tables.line) (ap line_of line_same ∙ held.0) y.tables.line.pos (ap (λ (q : LineBuffer). q.pos) line_same ∙ held.1) (note_of y.tables.note) note-is (note_of y.tables.hint) hint-now

        by : (r : Result Unit BrokenAct) → Sound w.columns (drawn_to l (with_lit s.lit x.session) r) y.tables
        by (Ok u) = record { prompt = behind; stands = λ _. now-shown }
        by (Err q) = record { prompt = behind; stands = λ _. now-shown.line }

    -- the bytes by the layout are those of the page
    pub redrawn-bytes : (p : Page) → erase_layout s.layout ++ draw_layout styles l ≡ erase_layout x.session.layout ++ draw_page d ps replies (page_next p)
    redrawn-bytes p =
        ap (λ (t : Session). erase_layout t.layout ++ draw_layout styles l) lit-same
        ∙ ap (λ (bs : List ℕ). erase_layout x.session.layout ++ bs) (laid-draws d ps (page_next p) l laid replies)

    -- an act that draws the line so, from a page with its upper rows, went by the law
    pub redrawn-went : StyledTexts (w.lights y.highlighter) (w.lights_prompt y.highlighter) (w.lights_hint y.highlighter) s.colours (texts_of c.prompt c.line c.note) styles
        → (before : List ℕ) (m : Moment T H) (a : Act) (p : Page) → p.ended ≡ false → hint ≡ cond (asks_hinter a) (w.hints (line_after a m.page) (pos_after a m.page)) None
        → page_next p ≡ page_after d ps (w.screen m.terminal) a replies (is_ok r) m.page
        → Asks w z a m.page (page_next p) m.highlighter s.lit y.highlighter
        → Written w.answered m.terminal (writes d ps x.session.holds m.torn a replies m.page (page_next p)) r y.terminal
        → buffer_of y.tables ≡ buffer_after d ps a replies m.page (page_next p) before
        → WentBuffered w z m a r before (buffer_of y.tables) (moment_of y (record { upper = p.upper; base = p.base; window = (page_next p).window }))
    redrawn-went styled before m a p live hints page asks written bytes =
        subst (λ (n : Moment T H). WentBuffered w z m a r before (buffer_of y.tables) n) (sym (redrawn-moment p live)) (record {
          went = record {
            replies = replies;
            hint = hints;
            hint_fine = hint-fine;
            page = page;
            asks = asks;
            styled = λ _. redrawn-styled styled p;
            written = written;
            torn = refl;
          };
          buffer = bytes;
        })

    -- where the block was on the screen, from above whatever rows
    module _ (begun : x.session.begun ≡ x.session.size) (untorn : is_torn x.session.standing ≡ false) (v : View) where
      abbrev pub page_before : Page
      page_before = page_of x.session x.tables v

      -- the upper rows stay, and the window may move down
      abbrev pub view_after : View
      view_after = record { upper = v.upper; base = v.base; window = (page_next page_before).window }

      pub was-shown : Shown d ps (line_of x.tables.line) x.tables.line.pos (note_of x.tables.note) (note_of x.tables.hint) x.session.layout
      was-shown = open-shown w.columns x.session.size ps x.tables x.session.layout x.session.standing (sound.stands begun) untorn (λ tall. tall-never w.columns x.session.size ps ln [] good good_none tall low)

      -- the old block is erased and the new one drawn
      pub anew-written : Written w.answered x.terminal (framed s.holds ((old_rows (Some s.layout) ++ draw_layout styles l) ∷ [])) r y.terminal
          → Written w.answered x.terminal (redraw d ps x.session.holds replies page_before (page_next page_before)) r y.terminal
      anew-written drawn = subst (λ (bs : List ℕ). Written w.answered x.terminal (framed x.session.holds ((bs ++ draw_page d ps replies (page_next page_before)) ∷ [])) r y.terminal) (laid-erases d ps page_before x.session.layout was-shown.laid) (redrawn-written drawn page_before)

      -- and so the draw buffer holds it
      pub anew-bytes : buffer_of y.tables ≡ old_rows (Some s.layout) ++ draw_layout styles l → buffer_of y.tables ≡ redrawing d ps replies page_before (page_next page_before)
      anew-bytes composes = composes ∙ redrawn-bytes page_before ∙ ap (λ (bs : List ℕ). bs ++ draw_page d ps replies (page_next page_before)) (laid-erases d ps page_before x.session.layout was-shown.laid)

      -- an act that draws the line anew went by the law
      pub anew-went : (a : Act) → StyledTexts (w.lights y.highlighter) (w.lights_prompt y.highlighter) (w.lights_hint y.highlighter) s.colours (texts_of c.prompt c.line c.note) styles
          → Written w.answered x.terminal (framed s.holds ((old_rows (Some s.layout) ++ draw_layout styles l) ∷ [])) r y.terminal
          → buffer_of y.tables ≡ old_rows (Some s.layout) ++ draw_layout styles l
          → hint ≡ cond (asks_hinter a) (w.hints (line_after a page_before) (pos_after a page_before)) None
          → page_next page_before ≡ page_after d ps (w.screen x.terminal) a replies (is_ok r) page_before
          → Asks w z a page_before (page_next page_before) x.highlighter s.lit y.highlighter
          → redraw d ps x.session.holds replies page_before (page_next page_before) ≡ writes d ps x.session.holds (is_torn x.session.standing) a replies page_before (page_next page_before)
          → redrawing d ps replies page_before (page_next page_before) ≡ buffer_after d ps a replies page_before (page_next page_before) (buffer_of x.tables)
          → WentBuffered w z (moment_of x v) a r (buffer_of x.tables) (buffer_of y.tables) (moment_of y view_after)
      anew-went a styled written composes hints page asks same_writes same_buffer =
          redrawn-went styled (buffer_of x.tables) (moment_of x v) a page_before refl hints page asks (subst (λ (ws : List (List ℕ)). Written w.answered x.terminal ws r y.terminal) same_writes (anew-written written)) (anew-bytes composes ∙ same_buffer)

  -- an act that draws the line anew is a step of a run
  module _ (styled : StyledTexts (w.lights y.highlighter) (w.lights_prompt y.highlighter) (w.lights_hint y.highlighter) s.colours (texts_of c.prompt c.line c.note) styles) (written : Written w.answered x.terminal (framed s.holds ((old_rows (Some s.layout) ++ draw_layout styles l) ∷ [])) r y.terminal)
      (composes : buffer_of y.tables ≡ old_rows (Some s.layout) ++ draw_layout styles l) (a : Act) (judged : JudgesEnds w.columns x.session x.tables (w.extent x.terminal) a ln pos (Ok e)) (fine : Sound w.columns x.session x.tables → GoodText ln × AtBoundary ln pos)
      (keeps : mends a ≡ false) (height : (v : View) → HeightFine d ps a (page_of x.session x.tables v) → Low d ps ln [])
      (hints : (v : View) → hint ≡ cond (asks_hinter a) (w.hints (line_after a (page_of x.session x.tables v)) (pos_after a (page_of x.session x.tables v))) None)
      (pages : (v : View) → hinted d ps replies (edited d ps ln pos (page_of x.session x.tables v)) ≡ page_after d ps (w.screen x.terminal) a replies (is_ok r) (page_of x.session x.tables v))
      (asks : (v : View) (q : Page) → Heeds w z w.heeds_other x.highlighter q.line q.pos s.lit y.highlighter → Asks w z a (page_of x.session x.tables v) q x.highlighter s.lit y.highlighter)
      (same_writes : Sound w.columns x.session x.tables → (v : View) → let q = hinted d ps replies (edited d ps ln pos (page_of x.session x.tables v)) in redraw d ps x.session.holds replies (page_of x.session x.tables v) q ≡ writes d ps x.session.holds (is_torn x.session.standing) a replies (page_of x.session x.tables v) q)
      (same_buffer : Sound w.columns x.session x.tables → (v : View) → let q = hinted d ps replies (edited d ps ln pos (page_of x.session x.tables v)) in redrawing d ps replies (page_of x.session x.tables v) q ≡ buffer_after d ps a replies (page_of x.session x.tables v) q (buffer_of x.tables))
      (layout : is_err r ≡ true → LeavesLayout a x.session.layout y.session.layout) where
    met : (t : Sound w.columns x.session x.tables) (v : View) → Admitted d ps (is_torn x.session.standing) ((w.extent x.terminal ≡ x.session.size) × (x.session.begun ≡ x.session.size)) a (page_of x.session x.tables v)
    met t v = admitted d ps (is_torn x.session.standing) ((w.extent x.terminal ≡ x.session.size) × (x.session.begun ≡ x.session.size)) a (page_of x.session x.tables v) (judged.refuses t v)

    whole : (t : Sound w.columns x.session x.tables) (v : View) → is_torn x.session.standing ≡ false
    whole t v = untorn (is_torn x.session.standing) (mends a) keeps (met t v).untorn

    pub anew-acted : Acted w x a (outcome_of r) y
    anew-acted =
        went-acted w x y a r redrawn-settings layout
        (λ t. redrawn-sound t (fine t).0 (fine t).1 (judged.tells t) (height bare_view (met t bare_view).height))
        judged.refuses
        (λ t v.
        let low = height v (met t v).height in (
          view_after t (fine t).0 (fine t).1 (judged.tells t) low (met t v).size.1 (whole t v) v,
          anew-went t (fine t).0 (fine t).1 (judged.tells t) low (met t v).size.1 (whole t v) v a styled written composes (hints v) (pages v) (asks v _ (redrawn-heeds t (fine t).0 (fine t).1 (judged.tells t) low (page_of x.session x.tables v))) (same_writes t v) (same_buffer t v),
        ))
