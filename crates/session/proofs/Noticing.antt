-- A notice printed above the block: the page that follows, and what the session then holds.
use Rattle.std.proofs.Common.{◌≡◌, ℕ, Bool, true, false, List, [], ◌++◌, is_err, Some, None, Ok, Err, Option, Result, sym, refl, ap, ◌∙◌, subst, arith}
use Rattle.judging.proofs.Fitting.{stored-fine}
use Rattle.judging.specs.Fitting.{LaidOut}
use Rattle.judging.specs.Judgements.{Low}
use Rattle.layout.specs.Laying.{LaidAs, corner}
use Rattle.layout.specs.declared.block.Layout.{Layout}
use Rattle.layout.specs.declared.layout.Position.{Position}
use Rattle.lines.proofs.Buffers.{line-place}
use Rattle.lines.specs.Lines.{line_of}
use Rattle.lines.specs.Notes.{note_of}
use Rattle.lines.specs.Prompts.{raw_of, styled_of}
use Rattle.lines.specs.declared.line_buffer.LineBuffer.{LineBuffer}
use Rattle.lines.specs.declared.note.Note.{Note}
use Rattle.lines.specs.declared.prompt.Prompt.{Prompt}
use Rattle.measuring.specs.Measured.{Computes}
use Rattle.judging.specs.declared.judging.Placed.{Placed}
use Rattle.page.proofs.Admitting.{Admitted, admitted, some-none}
use Rattle.page.proofs.Spelt.{good_none}
use Rattle.page.specs.Acts.{Replies, noted, notice, printed, settled}
use Rattle.page.specs.Law.{Moment, Settings, StyledBy, World, Written}
use Rattle.page.specs.Output.{draw_page, erase_page, framed}
use Rattle.page.specs.Page.{Page}
use Rattle.page.specs.Rules.{Outcome}
use Rattle.page.specs.declared.outcome.BrokenAct.{BrokenAct}
use Rattle.render.specs.Composing.{composed}
use Rattle.render.specs.Drawing.{Texts, draw_layout, texts_of}
use Rattle.render.specs.Notices.{Printed, notice_writes}
use Rattle.render.specs.declared.renderer.PosixRenderer.{PosixRenderer}
use Rattle.screen.specs.Screen.{Geometry}
use Rattle.session.proofs.Acting.{WentBuffered, went-acted}
use Rattle.session.proofs.Finishing.{no_view, not-torn, same-behind}
use Rattle.session.proofs.Heights.{line-good, open-shown, tall-never}
use Rattle.session.proofs.Layouts.{laid-draws, laid-erases, page_texts, replies_of, styled-page}
use Rattle.session.proofs.Redrawing.{settings-prompt}
use Rattle.session.specs.Acting.{Acted, outcome_of, state_of}
use Rattle.session.specs.Buffering.{buffer_of, redrawing}
use Rattle.session.specs.Judging.{JudgesEnds}
use Rattle.session.specs.Noticing.{LaysNote, Noticed, noticed_to}
use Rattle.session.specs.Painting.{drawn_to, laid_at}
use Rattle.session.specs.Sessions.{Shown, Sound, State, View, is_torn, moment_of, page_of, prompt_of, settings_of}
use Rattle.session.specs.Styling.{StyledTexts}
use Rattle.session.specs.declared.session.Session.{Session}
use Rattle.session.specs.declared.tables.Tables.{Tables}
use Rattle.std.proofs.lemmas.Bool.{false≢true}
use Rattle.std.specs.Option.{unwrap_or}
use Rattle.terminal.specs.Windows.{geometry}
use Rattle.terminal.specs.declared.size.Size.{Size}
use Rattle.terminal.specs.Answers.{WriteAnswer}

-- a stored note that the window holds has a layout
pub lays-hinted : (w : ℕ → ℕ) (p : Position) (z : Size) (e : Placed) (n : Note) (text : List ℕ) → Some text ≡ note_of n → (none : Layout) (o : Option Layout) → Computes w z p e.ends (Some text) o → LaysNote w p z e (note_of n) (unwrap_or o none)
lays-hinted w p z e n text same none o laid = subst (λ (k : Option (List ℕ)). LaysNote w p z e k (unwrap_or o none)) same (by o laid)
  where
    by : (o : Option Layout) → Computes w z p e.ends (Some text) o → LaysNote w p z e (Some text) (unwrap_or o none)
    by (Some l) laid ps line pos s low = (laid ps line pos s.behind.good s.behind.prompt s.text s.place s.placed.ends (stored-fine n (Some text) (sym same))).1
    by None laid ps line pos s low = absurd (let high = laid ps line pos s.behind.good s.behind.prompt s.text s.place s.placed.ends (stored-fine n (Some text) (sym same)) in omega arith)

-- a drawing over no layout leaves what a notice does
pub drawn-noticed : (l o : Layout) (s : Session) (r : Result Unit BrokenAct) → drawn_to l (laid_at o s.standing s) r ≡ noticed_to l o s r
drawn-noticed l o s (Ok u) = refl
drawn-noticed l o s (Err e) = refl

-- a printed notice, with the hint copied for the note
pub noticed : {T : Type 0} {answered : T → List ℕ → WriteAnswer → T → Type 0} {lights : List ℕ → ℕ → List ℕ → Type 0} {lights_prompt : List ℕ → Bool → List ℕ → Type 0} {lights_hint : List ℕ → List ℕ → Type 0}
    (l none : Layout) (text : List ℕ) (s t : Session) (b : Tables) (x y : T) (r : Result Unit BrokenAct) (note : Note) (renderer : PosixRenderer)
    → note_of note ≡ note_of b.hint → LaidAs 1 corner corner corner none → t ≡ noticed_to l none s r
    → Printed answered (StyledTexts lights lights_prompt lights_hint s.colours (texts_of b.prompt b.line note)) s.layout l text s.holds x r y (composed renderer)
    → Noticed answered lights lights_prompt lights_hint l text s b x r t (record { prompt = b.prompt; line = b.line; note = note; hint = b.hint; renderer = renderer }) y
noticed l none text s t b x y r note renderer copied blank is print = record { print = print; none = none; blank = blank; session = is; note = copied; prompt = refl; line = refl; hint = refl }

-- what a notice leaves of a session's numbers
noticed-torn : (l o : Layout) (s : Session) (r : Result Unit BrokenAct) → is_torn (noticed_to l o s r).standing ≡ is_err r
noticed-torn l o s (Ok u) = refl
noticed-torn l o s (Err e) = refl

noticed-layout : (l o : Layout) (s : Session) (r : Result Unit BrokenAct) → is_err r ≡ true → (noticed_to l o s r).layout ≡ o
noticed-layout l o s (Ok u) e = absurd (false≢true e)
noticed-layout l o s (Err b) e = refl

noticed-lit : (l o : Layout) (s : Session) (r : Result Unit BrokenAct) → (noticed_to l o s r).lit ≡ s.lit
noticed-lit l o s (Ok u) = refl
noticed-lit l o s (Err e) = refl

noticed-settings : (l o : Layout) (s : Session) (b : Tables) (r : Result Unit BrokenAct) → settings_of (noticed_to l o s r) b ≡ settings_of s b
noticed-settings l o s b (Ok u) = refl
noticed-settings l o s b (Err e) = refl

module _ {T H : Type 0} (w : World T H) (x : State T H) (text : List ℕ) (e : Placed) (l : Layout) (r : Result Unit BrokenAct) (t : T) (n : Session) (c : Tables)
    (judged : JudgesEnds w.columns x.session x.tables (w.extent x.terminal) (notice text) (line_of x.tables.line) x.tables.line.pos (Ok e))
    (lays : LaysNote w.columns x.session.prompt x.session.size e (note_of x.tables.hint) l)
    (went : Noticed w.answered (w.lights x.highlighter) (w.lights_prompt x.highlighter) (w.lights_hint x.highlighter) l text x.session x.tables x.terminal r n c t) where
  abbrev s : Session
  s = x.session

  abbrev b : Tables
  b = x.tables

  abbrev y : State T H
  y = state_of t x.highlighter n c

  abbrev z : Settings
  z = settings_of s b

  abbrev d : Geometry
  d = geometry w.columns s.size

  abbrev ps : List ℕ
  ps = prompt_of b

  abbrev ln : List ℕ
  ln = line_of b.line

  abbrev hint : Option (List ℕ)
  hint = note_of b.hint

  -- no one is asked; the texts as they are drawn
  abbrev replies : Replies
  replies = replies_of None s.lit went.print.styles

  settings-same : settings_of n c ≡ z
  settings-same = ap (λ (q : Session). settings_of q c) went.session ∙ noticed-settings l went.none s c r ∙ settings-prompt s b c went.prompt

  -- broken, it leaves no layout
  layout-none : is_err r ≡ true → LaidAs 1 corner corner corner n.layout
  layout-none broken = subst (λ (q : Layout). LaidAs 1 corner corner corner q) (sym (ap (λ (q : Session). q.layout) went.session ∙ noticed-layout l went.none s r broken)) went.blank

  hint-now : note_of c.hint ≡ hint
  hint-now = ap note_of went.hint

  line-now : line_of c.line ≡ ln
  line-now = ap line_of went.line

  pos-now : c.line.pos ≡ b.line.pos
  pos-now = ap (λ (q : LineBuffer). q.pos) went.line

  module _ (sound : Sound w.columns s b) where
    admits : (v : View) → Admitted d ps (is_torn s.standing) ((w.extent x.terminal ≡ s.size) × (s.begun ≡ s.size)) (notice text) (page_of s b v)
    admits v = admitted d ps (is_torn s.standing) ((w.extent x.terminal ≡ s.size) × (s.begun ≡ s.size)) (notice text) (page_of s b v) (judged.refuses sound v)

    low : Low d ps ln []
    low = (admits no_view).height

    was-shown : Shown d ps ln b.line.pos (note_of b.note) hint s.layout
    was-shown = open-shown w.columns s.size ps b s.layout s.standing (sound.stands (admits no_view).size.1) (not-torn (is_torn s.standing) (admits no_view).untorn) (λ tall. tall-never w.columns s.size ps ln [] (line-good b) good_none tall low)

    laid : LaidOut d ps ln b.line.pos hint l
    laid = lays ps ln b.line.pos (record { behind = sound.prompt; text = line-good b; place = line-place b.line; placed = judged.tells sound; low = low }) was-shown.hint

    -- the session still belongs to its tables
    sound-still : Sound w.columns n c
    sound-still = subst (λ (q : Session). Sound w.columns q c) (sym went.session) (by r)
      where
        at : (q : Prompt) → q ≡ b.prompt → (u : List ℕ) → u ≡ ln → (k : ℕ) → k ≡ b.line.pos → (o : Option (List ℕ)) → o ≡ hint → (p : Option (List ℕ)) → p ≡ hint
            → Shown d (prompt_of (record { prompt = q; line = b.line; note = b.note; hint = b.hint; renderer = b.renderer })) u k o p l
        at q iq u iu k ik o io p ip =
            let s0 : Shown d ps ln b.line.pos hint hint l = record { line = low; hint = was-shown.hint; whole = was-shown.hint; laid = laid } in
            let s1 = subst (λ (v : Option (List ℕ)). Shown d ps ln b.line.pos v hint l) (sym io) s0 in
            let s2 = subst (λ (v : Option (List ℕ)). Shown d ps ln b.line.pos o v l) (sym ip) s1 in
            let s3 = subst (λ (v : ℕ). Shown d ps ln v o p l) (sym ik) s2 in
            let s4 = subst (λ (v : List ℕ). Shown d ps v k o p l) (sym iu) s3 in
            subst (λ (v : Prompt). Shown d (prompt_of (record { prompt = v; line = b.line; note = b.note; hint = b.hint; renderer = b.renderer })) u k o p l) (sym iq) s4

        now-shown : Shown d (prompt_of c) (line_of c.line) c.line.pos (note_of c.note) (note_of c.hint) l
        now-shown = at c.prompt went.prompt (line_of c.line) line-now c.line.pos pos-now (note_of c.note) went.note (note_of c.hint) hint-now

        by : (r : Result Unit BrokenAct) → Sound w.columns (noticed_to l went.none s r) c
        by (Ok u) = record { prompt = same-behind w.columns s b c went.prompt sound.prompt; stands = λ _. now-shown }
        by (Err q) = record { prompt = same-behind w.columns s b c went.prompt sound.prompt; stands = λ _. now-shown.line }

    module _ (v : View) where
      abbrev page_before : Page
      page_before = page_of s b v

      -- the notice's rows join the upper rows, and the hint is the note
      abbrev page_next : Page
      page_next = settled d ps (noted d ps hint hint s.lit (printed d ps text page_before))

      abbrev view_after : View
      view_after = record { upper = page_next.upper; base = page_next.base; window = page_next.window }

      moment-next : moment_of y view_after ≡ record { terminal = t; highlighter = x.highlighter; page = page_next; torn = is_err r }
      moment-next i = record {
        terminal = t;
        highlighter = x.highlighter;
        page = record {
          line = line-now i;
          pos = pos-now i;
          note = went.note i;
          hint = hint-now i;
          lit = (ap (λ (q : Session). q.lit) went.session ∙ noticed-lit l went.none s r) i;
          upper = page_next.upper;
          base = page_next.base;
          window = page_next.window;
          ended = false;
        };
        torn = (ap (λ (q : Session). is_torn q.standing) went.session ∙ noticed-torn l went.none s r) i;
      }

      texts-same : texts_of b.prompt b.line c.note ≡ page_texts z page_next
      texts-same i = record { raw = raw_of b.prompt; styled = styled_of b.prompt; line = ln; pos = b.line.pos; note = went.note i }

      styled-next : StyledBy w z x.highlighter page_next replies
      styled-next =
          styled-page w z x.highlighter page_next None s.lit went.print.styles
          (subst (λ (q : Texts). StyledTexts (w.lights x.highlighter) (w.lights_prompt x.highlighter) (w.lights_hint x.highlighter) s.colours q went.print.styles) texts-same went.print.styled)

      written_next : Written w.answered x.terminal (framed s.holds (notice_writes (erase_page d ps page_before) text (draw_page d ps replies page_next))) r t
      written_next =
          subst (λ (bs : List ℕ). Written w.answered x.terminal (framed s.holds (notice_writes (erase_page d ps page_before) text bs)) r t) (laid-draws d ps page_next l laid replies)
          (subst (λ (bs : List ℕ). Written w.answered x.terminal (framed s.holds (notice_writes bs text (draw_layout went.print.styles l))) r t) (laid-erases d ps page_before s.layout was-shown.laid) went.print.written)

      -- both drawings stand in the draw buffer, one behind the other
      bytes_next : buffer_of c ≡ redrawing d ps replies page_before page_next
      bytes_next =
          went.print.bytes
          ∙ ap (λ (bs : List ℕ). bs ++ draw_layout went.print.styles l) (laid-erases d ps page_before s.layout was-shown.laid)
          ∙ ap (λ (bs : List ℕ). erase_page d ps page_before ++ bs) (laid-draws d ps page_next l laid replies)

      notice-went : WentBuffered w z (moment_of x v) (notice text) r (buffer_of b) (buffer_of c) (moment_of y view_after)
      notice-went = subst (λ (m : Moment T H). WentBuffered w z (moment_of x v) (notice text) r (buffer_of b) (buffer_of c) m) (sym moment-next) (record {
        went = record {
          replies = replies;
          hint = refl;
          hint_fine = λ u q. some-none q;
          page = refl;
          asks = refl;
          styled = λ _. styled-next;
          written = written_next;
          torn = refl;
        };
        buffer = bytes_next;
      })

  -- a notice that no rule refuses
  pub notice-acted : (o : Outcome) → o ≡ outcome_of r → Acted w x (notice text) o y
  notice-acted o is =
      subst (λ (q : Outcome). Acted w x (notice text) q y) (sym is)
      (went-acted w x y (notice text) r settings-same layout-none sound-still judged.refuses (λ sound v. (view_after sound v, notice-went sound v)))
