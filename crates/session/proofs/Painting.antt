-- A line drawn anew with a note and a hint that are known: the page that follows, and what the session then holds.
use Rattle.std.proofs.Common.{◌≡◌, ℕ, true, false, cond, List, [], ◌∷◌, ◌++◌, is_ok, is_err, None, Ok, Err, Option, Result, sym, refl, ap, ◌∙◌, subst}
use Rattle.judging.specs.Judgements.{Behind}
use Rattle.layout.specs.declared.block.Layout.{Layout}
use Rattle.lines.specs.Lines.{Holds, line_of}
use Rattle.lines.specs.Notes.{note_of}
use Rattle.lines.specs.Prompts.{raw_of, styled_of}
use Rattle.lines.specs.declared.line_buffer.LineBuffer.{LineBuffer}
use Rattle.lines.specs.declared.prompt.Prompt.{Prompt}
use Rattle.page.proofs.Admitting.{some-none}
use Rattle.page.proofs.Spelt.{good_none}
use Rattle.page.specs.Acts.{Act, Replies, asks_hinter, edited, line_after, noted, page_after, pos_after, settled}
use Rattle.page.specs.Law.{Asks, Moment, Settings, StyledBy, World, Written}
use Rattle.page.specs.Output.{draw_page, framed, redraw, writes}
use Rattle.page.specs.Page.{Page}
use Rattle.page.specs.declared.outcome.BrokenAct.{BrokenAct}
use Rattle.render.specs.Drawing.{Texts, draw_layout, erase_layout, texts_of}
use Rattle.screen.specs.Screen.{Geometry}
use Rattle.session.proofs.Acting.{WentBuffered}
use Rattle.session.proofs.Heights.{open-shown, tall-never}
use Rattle.session.proofs.Layouts.{laid-draws, laid-erases, page_texts, replies_of, styled-page}
use Rattle.session.proofs.Redrawing.{drawn-layout, drawn-lit, drawn-settings, drawn-torn, settings-prompt}
use Rattle.session.specs.Asking.{with_lit}
use Rattle.session.specs.Buffering.{buffer_after, buffer_of, redrawing}
use Rattle.session.specs.Painting.{Painted, drawn_to}
use Rattle.session.specs.Sessions.{Shown, Sound, State, View, is_torn, moment_of, page_of, prompt_of, settings_of}
use Rattle.session.specs.Styling.{StyledTexts}
use Rattle.session.specs.declared.session.Session.{Session}
use Rattle.session.specs.declared.tables.Tables.{Tables}
use Rattle.terminal.specs.Windows.{geometry}
use Rattle.text.specs.Texts.{GoodText}

-- tables of which only the prompt counts
abbrev with_prompt : Prompt → Tables → Tables
with_prompt q b = record { prompt = q; line = b.line; note = b.note; hint = b.hint; renderer = b.renderer }

-- from a session x to y, drawn with the session s and the tables c, which have taken a line, a position, a note and a hint
module _ {T H : Type 0} (w : World T H) (x y : State T H) (ln : List ℕ) (pos : ℕ) (note hint : Option (List ℕ)) (l : Layout) (s : Session) (c : Tables) (r : Result Unit BrokenAct)
    (lit-same : s ≡ with_lit s.lit x.session) (held : Holds ln pos c.line) (same : c.prompt ≡ x.tables.prompt) (note-is : note_of c.note ≡ note) (hint-is : note_of c.hint ≡ hint)
    (paint : Painted w.answered (w.lights y.highlighter) (w.lights_prompt y.highlighter) (w.lights_hint y.highlighter) l s c x.terminal r y.session y.tables y.terminal) where
  abbrev z : Settings
  z = settings_of x.session x.tables

  abbrev d : Geometry
  d = geometry w.columns x.session.size

  abbrev ps : List ℕ
  ps = prompt_of x.tables

  -- nobody was asked for a hint
  abbrev pub answers : Replies
  answers = replies_of None s.lit paint.drew.styles

  prompt-same : y.tables.prompt ≡ x.tables.prompt
  prompt-same = paint.prompt ∙ same

  line-now : line_of y.tables.line ≡ ln
  line-now = ap line_of paint.line ∙ held.0

  pos-now : y.tables.line.pos ≡ pos
  pos-now = ap (λ (q : LineBuffer). q.pos) paint.line ∙ held.1

  note-now : note_of y.tables.note ≡ note
  note-now = ap note_of paint.note ∙ note-is

  hint-now : note_of y.tables.hint ≡ hint
  hint-now = ap note_of paint.hint ∙ hint-is

  -- what was settled stays
  pub painted-settings : settings_of y.session y.tables ≡ z
  painted-settings =
      ap (λ (t : Session). settings_of t y.tables) paint.session ∙ drawn-settings l s y.tables r
      ∙ ap (λ (t : Session). settings_of t y.tables) lit-same ∙ settings-prompt x.session x.tables y.tables prompt-same

  -- and, broken, the layout
  pub painted-layout : is_err r ≡ true → y.session.layout ≡ x.session.layout
  painted-layout broken = ap (λ (t : Session). t.layout) paint.session ∙ drawn-layout l s r broken ∙ ap (λ (t : Session). t.layout) lit-same

  -- the page drawn, from another that has its upper rows
  abbrev pub page_painted : Page → Page
  page_painted p = settled d ps (noted d ps note hint s.lit (edited d ps ln pos p))

  -- the session's page is that page
  painted-moment : (p : Page) → p.ended ≡ false
      → moment_of y (record { upper = p.upper; base = p.base; window = (page_painted p).window }) ≡ record { terminal = y.terminal; highlighter = y.highlighter; page = page_painted p; torn = is_err r }
  painted-moment p live i = record {
    terminal = y.terminal;
    highlighter = y.highlighter;
    page = record {
      line = line-now i;
      pos = pos-now i;
      note = note-now i;
      hint = hint-now i;
      lit = (ap (λ (t : Session). t.lit) paint.session ∙ drawn-lit l s r) i;
      upper = p.upper;
      base = p.base;
      window = (page_painted p).window;
      ended = sym live i;
    };
    torn = (ap (λ (t : Session). is_torn t.standing) paint.session ∙ drawn-torn l s r) i;
  }

  texts-same : (p : Page) → texts_of c.prompt c.line c.note ≡ page_texts z (page_painted p)
  texts-same p i = record { raw = raw_of (same i); styled = styled_of (same i); line = held.0 i; pos = held.1 i; note = note-is i }

  painted-styled : (p : Page) → StyledBy w z y.highlighter (page_painted p) answers
  painted-styled p =
      styled-page w z y.highlighter (page_painted p) None s.lit paint.drew.styles
      (subst (λ (t : Session). StyledTexts (w.lights y.highlighter) (w.lights_prompt y.highlighter) (w.lights_hint y.highlighter) t.colours (page_texts z (page_painted p)) paint.drew.styles) lit-same
      (subst (λ (t : Texts). StyledTexts (w.lights y.highlighter) (w.lights_prompt y.highlighter) (w.lights_hint y.highlighter) s.colours t paint.drew.styles) (texts-same p) paint.drew.styled))

  module _ (sound : Sound w.columns x.session x.tables) (good : GoodText ln) (shown : Shown d ps ln pos note hint l) where
    painted-written : (p : Page) → Written w.answered x.terminal (framed x.session.holds ((erase_layout x.session.layout ++ draw_page d ps answers (page_painted p)) ∷ [])) r y.terminal
    painted-written p =
        subst (λ (bs : List ℕ). Written w.answered x.terminal (framed x.session.holds ((erase_layout x.session.layout ++ bs) ∷ [])) r y.terminal) (laid-draws d ps (page_painted p) l shown.laid answers)
        (subst (λ (t : Session). Written w.answered x.terminal (framed t.holds ((erase_layout t.layout ++ draw_layout paint.drew.styles l) ∷ [])) r y.terminal) lit-same paint.drew.written)

    -- what is drawn stands in the draw buffer
    painted-bytes : (p : Page) → buffer_of y.tables ≡ erase_layout x.session.layout ++ draw_page d ps answers (page_painted p)
    painted-bytes p =
        paint.drew.bytes ∙ ap (λ (t : Session). erase_layout t.layout ++ draw_layout paint.drew.styles l) lit-same
        ∙ ap (λ (bs : List ℕ). erase_layout x.session.layout ++ bs) (laid-draws d ps (page_painted p) l shown.laid answers)

    behind : Behind w.columns x.session.size (prompt_of y.tables) x.session.prompt
    behind = subst (λ (q : Prompt). Behind w.columns x.session.size (prompt_of (with_prompt q x.tables)) x.session.prompt) (sym prompt-same) sound.prompt

    shown-at : (q : Prompt) → q ≡ x.tables.prompt → (t : List ℕ) → t ≡ ln → (n : ℕ) → n ≡ pos → (o : Option (List ℕ)) → o ≡ note → (u : Option (List ℕ)) → u ≡ hint → Shown d (prompt_of (with_prompt q x.tables)) t n o u l
    shown-at q a t f n g o h u k =
        let s1 = subst (λ (v : Option (List ℕ)). Shown d ps ln pos v hint l) (sym h) shown in
        let s2 = subst (λ (v : Option (List ℕ)). Shown d ps ln pos o v l) (sym k) s1 in
        let s3 = subst (λ (v : ℕ). Shown d ps ln v o u l) (sym g) s2 in
        let s4 = subst (λ (v : List ℕ). Shown d ps v n o u l) (sym f) s3 in
        subst (λ (v : Prompt). Shown d (prompt_of (with_prompt v x.tables)) t n o u l) (sym a) s4

    shown-now : Shown d (prompt_of y.tables) (line_of y.tables.line) y.tables.line.pos (note_of y.tables.note) (note_of y.tables.hint) l
    shown-now = shown-at y.tables.prompt prompt-same (line_of y.tables.line) line-now y.tables.line.pos pos-now (note_of y.tables.note) note-now (note_of y.tables.hint) hint-now

    -- and the session still belongs to its tables
    pub painted-sound : Sound w.columns y.session y.tables
    painted-sound = subst (λ (t : Session). Sound w.columns t y.tables) (sym (paint.session ∙ ap (λ (t : Session). drawn_to l t r) lit-same)) (by r)
      where
        by : (q : Result Unit BrokenAct) → Sound w.columns (drawn_to l (with_lit s.lit x.session) q) y.tables
        by (Ok u) = record { prompt = behind; stands = λ _. shown-now }
        by (Err q) = record { prompt = behind; stands = λ _. shown-now.line }

    -- where the block was on the screen, from above whatever rows
    module _ (begun : x.session.begun ≡ x.session.size) (untorn : is_torn x.session.standing ≡ false) (v : View) where
      abbrev page_before : Page
      page_before = page_of x.session x.tables v

      -- the upper rows stay, and the window may move down
      abbrev pub view_painted : View
      view_painted = record { upper = v.upper; base = v.base; window = (page_painted page_before).window }

      was-shown : Shown d ps (line_of x.tables.line) x.tables.line.pos (note_of x.tables.note) (note_of x.tables.hint) x.session.layout
      was-shown = open-shown w.columns x.session.size ps x.tables x.session.layout x.session.standing (sound.stands begun) untorn (λ tall. tall-never w.columns x.session.size ps ln [] good good_none tall shown.line)

      -- the old block is erased and the new one drawn
      redraws : Written w.answered x.terminal (redraw d ps x.session.holds answers page_before (page_painted page_before)) r y.terminal
      redraws = subst (λ (bs : List ℕ). Written w.answered x.terminal (framed x.session.holds ((bs ++ draw_page d ps answers (page_painted page_before)) ∷ [])) r y.terminal) (laid-erases d ps page_before x.session.layout was-shown.laid) (painted-written page_before)

      redrawn-bytes : buffer_of y.tables ≡ redrawing d ps answers page_before (page_painted page_before)
      redrawn-bytes = painted-bytes page_before ∙ ap (λ (bs : List ℕ). bs ++ draw_page d ps answers (page_painted page_before)) (laid-erases d ps page_before x.session.layout was-shown.laid)

      -- an act that draws the line anew and asks no hinter went by the law
      pub painted-went : (a : Act) → None ≡ cond (asks_hinter a) (w.hints (line_after a page_before) (pos_after a page_before)) None
          → page_painted page_before ≡ page_after d ps (w.screen x.terminal) a answers (is_ok r) page_before
          → Asks w z a page_before (page_painted page_before) x.highlighter s.lit y.highlighter
          → redraw d ps x.session.holds answers page_before (page_painted page_before) ≡ writes d ps x.session.holds (is_torn x.session.standing) a answers page_before (page_painted page_before)
          → redrawing d ps answers page_before (page_painted page_before) ≡ buffer_after d ps a answers page_before (page_painted page_before) (buffer_of x.tables)
          → WentBuffered w z (moment_of x v) a r (buffer_of x.tables) (buffer_of y.tables) (moment_of y view_painted)
      painted-went a unasked page asks same_writes same_buffer =
          subst (λ (n : Moment T H). WentBuffered w z (moment_of x v) a r (buffer_of x.tables) (buffer_of y.tables) n) (sym (painted-moment page_before refl)) (record {
            went = record {
              replies = answers;
              hint = unasked;
              hint_fine = λ t e. some-none e;
              page = page;
              asks = asks;
              styled = λ _. painted-styled page_before;
              written = subst (λ (ws : List (List ℕ)). Written w.answered x.terminal ws r y.terminal) same_writes redraws;
              torn = refl;
            };
            buffer = redrawn-bytes ∙ same_buffer;
          })
