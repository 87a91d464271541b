-- A clear: the writes before its drawing, and the step that it is.
use Rattle.std.proofs.Common.{◌≡◌, ℕ, ◌+◌, ◌^◌, ◌<◌, ◌≤◌, Bool, true, false, ◌&&◌, List, [], ◌∷◌, ◌++◌, length, is_err, Some, None, Ok, Err, Result, sym, refl, ap, ◌∙◌, subst, arith}
use Rattle.session.specs.Styling.{StyledTexts}
use mir.Val.{bool_byte}
use Rattle.judging.specs.Judgements.{Low, PlacedFor}
use Rattle.layout.specs.Laying.{LaidAs, corner}
use Rattle.layout.specs.declared.block.Layout.{Layout}
use Rattle.lines.proofs.Buffers.{line-place}
use Rattle.lines.specs.Lines.{line_of}
use Rattle.judging.specs.declared.judging.Placed.{Placed}
use Rattle.page.proofs.Admitting.{admitted}
use Rattle.page.specs.Acts.{Replies, clear, raised}
use Rattle.page.specs.Law.{World, Written}
use Rattle.page.specs.Output.{draw_page, framed, writes}
use Rattle.page.specs.Page.{Page}
use Rattle.page.specs.declared.outcome.BrokenAct.{BrokenAct}
use Rattle.render.proofs.Writes.{written-append, written-front, written-number}
use Rattle.render.specs.Composing.{composed}
use Rattle.render.specs.Drawing.{Composes, draw_layout, erase_layout, texts_of}
use Rattle.render.specs.Numbering.{shifted}
use Rattle.render.specs.declared.renderer.PosixRenderer.{PosixRenderer}
use Rattle.screen.specs.Output.{clear_bytes, erase_bytes, release_bytes}
use Rattle.screen.specs.Screen.{Geometry}
use Rattle.session.proofs.Acting.{WentBuffered, went-acted}
use Rattle.session.proofs.Redrawing.{Left, bare_view, corner-erases, page_next, redrawn-bytes, redrawn-heeds, redrawn-holds, redrawn-layout, redrawn-settings, redrawn-sound, redrawn-went, replies}
use Rattle.session.proofs.Heights.{line-good}
use Rattle.session.specs.Acting.{Acted, outcome_of}
use Rattle.session.specs.Buffering.{buffer_of}
use Rattle.session.specs.Clearing.{Cleared, DrawnCleared, cleared_by, wiped}
use Rattle.session.specs.Judging.{JudgesEnds, RefusesAct}
use Rattle.session.specs.Painting.{drawn_to, laid_at}
use Rattle.session.specs.Sessions.{Sound, State, View, is_torn, moment_of, page_of, prompt_of, settings_of}
use Rattle.session.specs.declared.session.Session.{Session}
use Rattle.session.specs.declared.standing.Standing.TheVariants.{Torn}
use Rattle.session.specs.declared.tables.Tables.{Tables}
use Rattle.terminal.specs.Windows.{geometry}
use Rattle.terminal.specs.Answers.{WriteAnswer}

-- an update of one write has at most three
framed-few : (holds : Bool) (w : List ℕ) → length (framed holds (w ∷ [])) ≤ 3
framed-few true w = omega arith
framed-few false w = omega arith

byte-few : (b : Bool) → bool_byte b ≤ 1
byte-few true = omega arith
byte-few false = omega arith

module _ {T : Type 0} (answered : T → List ℕ → WriteAnswer → T → Type 0) where
  -- the number of a broken write stays small behind a few writes
  pub few-number : (s t : T) (ws : List (List ℕ)) (r : Result Unit BrokenAct) (n : ℕ) → n ≤ 2 → length ws ≤ 3 → Written answered s ws r t → (b : BrokenAct) → r ≡ Err b → n + b.number < 2 ^ 64
  few-number s t ws r n few short h b e = let k = written-number answered (subst (λ (x : Result Unit BrokenAct). Written answered s ws x t) e h) in omega arith

  pub framed-number : (s t : T) (holds release : Bool) (w : List ℕ) (r : Result Unit BrokenAct) (n : ℕ) → n ≡ bool_byte release → Written answered s (framed holds (w ∷ [])) r t → (b : BrokenAct) → r ≡ Err b → n + 1 + b.number < 2 ^ 64
  framed-number s t holds release w r n is h = few-number s t (framed holds (w ∷ [])) r (n + 1) (let k = byte-few release in omega arith) (framed-few holds w) h

  -- a held update is let go, and the window blanked
  pub release-broke : (s t : T) (release : Bool) (b : BrokenAct) → release ≡ true → Written answered s (release_bytes ∷ []) (Err b) t → Written answered s (wiped release) (Err b) t
  release-broke s t release b e h = subst (λ (x : Bool). Written answered s (wiped x) (Err b) t) (sym e) (written-front answered (clear_bytes ∷ []) h)

  pub release-wiped : (s t u : T) (release : Bool) (r q : Result Unit BrokenAct) → release ≡ true → q ≡ shifted 1 r → Written answered s (release_bytes ∷ []) (Ok tt) t → Written answered t (clear_bytes ∷ []) r u → Written answered s (wiped release) q u
  release-wiped s t u release r q e is h k =
      subst (λ (x : Bool). Written answered s (wiped x) q u) (sym e) (subst (λ (x : Result Unit BrokenAct). Written answered s (wiped true) x u) (sym is) (written-append answered r h k))

  -- then the drawing is written
  pub wipe-broke : (s t : T) (release holds : Bool) (bytes : List ℕ) (b : BrokenAct) → Written answered s (wiped release) (Err b) t → Written answered s (cleared_by release holds bytes) (Err b) t
  wipe-broke s t true holds bytes b h = written-front answered (framed holds (bytes ∷ [])) h
  wipe-broke s t false holds bytes b h = written-front answered (framed holds (bytes ∷ [])) h

  wiped-drawn : (s t u : T) (release holds : Bool) (bytes : List ℕ) (r : Result Unit BrokenAct) → Written answered s (wiped release) (Ok tt) t → Written answered t (framed holds (bytes ∷ [])) r u → Written answered s (cleared_by release holds bytes) (shifted (bool_byte release + 1) r) u
  wiped-drawn s t u true holds bytes r h k = written-append answered r h k
  wiped-drawn s t u false holds bytes r h k = written-append answered r h k

  pub cleared-written : (s t u : T) (release holds : Bool) (bytes : List ℕ) (n : ℕ) (r q : Result Unit BrokenAct) → n ≡ bool_byte release → q ≡ shifted (n + 1) r → Written answered s (wiped release) (Ok tt) t → Written answered t (framed holds (bytes ∷ [])) r u → Written answered s (cleared_by release holds bytes) q u
  cleared-written s t u release holds bytes n r q e is h k =
      subst (λ (x : Result Unit BrokenAct). Written answered s (cleared_by release holds bytes) x u) (sym (is ∙ ap (λ (m : ℕ). shifted (m + 1) r) e)) (wiped-drawn s t u release holds bytes r h k)

-- a drawing that is composed before the window is blanked
pub composed-cleared : {T : Type 0} (answered : T → List ℕ → WriteAnswer → T → Type 0) (lights : List ℕ → ℕ → List ℕ → Type 0) (lights_prompt : List ℕ → Bool → List ℕ → Type 0) (lights_hint : List ℕ → List ℕ → Type 0)
    (release : Bool) (l : Layout) (s : Session) (b : Tables) (m : PosixRenderer) (n : ℕ) (bytes : List ℕ) (x y : T) (r : Result Unit BrokenAct) (t : Session)
    → Composes (StyledTexts lights lights_prompt lights_hint s.colours (texts_of b.prompt b.line b.note)) (Some s.layout) l n (composed m)
    → bytes ≡ composed m → Written answered x (cleared_by release s.holds bytes) r y → t ≡ drawn_to l s r
    → DrawnCleared answered lights lights_prompt lights_hint release l s b x r t (record { prompt = b.prompt; line = b.line; note = b.note; hint = b.hint; renderer = m }) y
composed-cleared answered lights lights_prompt lights_hint release l s b m n bytes x y r t made is written ended = record {
  styles = made.styles;
  styled = made.styled;
  written = subst (λ (bs : List ℕ). Written answered x (cleared_by release s.holds bs) r y) (is ∙ made.bytes) written;
  bytes = made.bytes;
  session = ended;
  prompt = refl;
  line = refl;
  note = refl;
  hint = refl;
}

module _ {T H : Type 0} (w : World T H) (x y : State T H) (e : Placed) (r : Result Unit BrokenAct) (cleared : Cleared w e x r y) where
  -- before the drawing nothing is on the screen
  abbrev wiped_state : State T H
  wiped_state = record { terminal = x.terminal; highlighter = x.highlighter; session = laid_at cleared.origin Torn x.session; tables = x.tables }

  left : Left cleared.layout cleared.session cleared.tables r y.session y.tables
  left = let p = cleared.paints in record { session = p.session; prompt = p.prompt; line = p.line; note = p.note; hint = p.hint }

  abbrev d : Geometry
  d = geometry w.columns x.session.size

  abbrev ps : List ℕ
  ps = prompt_of x.tables

  abbrev answers : Replies
  answers = replies w wiped_state y (line_of x.tables.line) x.tables.line.pos e cleared.layout cleared.session x.tables cleared.tables r (refl, refl) refl cleared.prepares left cleared.paints.styles

  pub cleared-settings : settings_of y.session y.tables ≡ settings_of x.session x.tables
  cleared-settings = redrawn-settings w wiped_state y (line_of x.tables.line) x.tables.line.pos e cleared.layout cleared.session x.tables cleared.tables r (refl, refl) refl cleared.prepares left cleared.paints.styles

  -- broken, it leaves no layout
  pub cleared-layout : is_err r ≡ true → LaidAs 1 corner corner corner y.session.layout
  cleared-layout broken = subst (λ (l : Layout). LaidAs 1 corner corner corner l) (sym (redrawn-layout w wiped_state y (line_of x.tables.line) x.tables.line.pos e cleared.layout cleared.session x.tables cleared.tables r (refl, refl) refl cleared.prepares left cleared.paints.styles broken)) cleared.first

  module _ (sound : Sound w.columns x.session x.tables) (judged : RefusesAct w.columns x.session x.tables (w.extent x.terminal) clear None) (placed : PlacedFor w.columns x.session.size ps (line_of x.tables.line) x.tables.line.pos e) where
    low : Low d ps (line_of x.tables.line) []
    low = (admitted d ps (is_torn x.session.standing) ((w.extent x.terminal ≡ x.session.size) × (x.session.begun ≡ x.session.size)) clear (page_of x.session x.tables bare_view) (judged bare_view)).height

    wiped-sound : Sound w.columns (laid_at cleared.origin Torn x.session) x.tables
    wiped-sound = record { prompt = sound.prompt; stands = λ _. low }

    pub cleared-sound : Sound w.columns y.session y.tables
    cleared-sound = redrawn-sound w wiped_state y (line_of x.tables.line) x.tables.line.pos e cleared.layout cleared.session x.tables cleared.tables r (refl, refl) refl cleared.prepares left cleared.paints.styles wiped-sound (line-good x.tables) (line-place x.tables.line) placed low

    module _ (v : View) where
      -- the page from the window's first row on
      abbrev page_blank : Page
      page_blank = raised d ps (w.screen x.terminal).pen.paper (w.screen x.terminal).top (w.screen x.terminal).top (page_of x.session x.tables v)

      abbrev page : Page
      page = page_next w wiped_state y (line_of x.tables.line) x.tables.line.pos e cleared.layout cleared.session x.tables cleared.tables r (refl, refl) refl cleared.prepares left cleared.paints.styles wiped-sound (line-good x.tables) (line-place x.tables.line) placed low page_blank

      body_is : erase_layout cleared.session.layout ++ draw_layout cleared.paints.styles cleared.layout ≡ erase_bytes 0 0 ++ draw_page d ps answers page
      body_is = redrawn-bytes w wiped_state y (line_of x.tables.line) x.tables.line.pos e cleared.layout cleared.session x.tables cleared.tables r (refl, refl) refl cleared.prepares left cleared.paints.styles wiped-sound (line-good x.tables) (line-place x.tables.line) placed low page_blank ∙ ap (λ (bs : List ℕ). bs ++ draw_page d ps answers page) (corner-erases cleared.origin cleared.first)

      cleared-writes : Written w.answered x.terminal (writes d ps x.session.holds (is_torn x.session.standing) clear answers (page_of x.session x.tables v) page) r y.terminal
      cleared-writes =
          subst (λ (bs : List ℕ). Written w.answered x.terminal (cleared_by (is_torn x.session.standing && x.session.holds) x.session.holds bs) r y.terminal) body_is
          (subst (λ (h : Bool). Written w.answered x.terminal (cleared_by (is_torn x.session.standing && x.session.holds) h (erase_layout cleared.session.layout ++ draw_layout cleared.paints.styles cleared.layout)) r y.terminal) (redrawn-holds w wiped_state y (line_of x.tables.line) x.tables.line.pos e cleared.layout cleared.session x.tables cleared.tables r (refl, refl) refl cleared.prepares left cleared.paints.styles) cleared.paints.written)

      pub cleared-went : (u : View) × WentBuffered w (settings_of x.session x.tables) (moment_of x v) clear r (buffer_of x.tables) (buffer_of y.tables) (moment_of y u)
      cleared-went = (record { upper = page_blank.upper; base = page_blank.base; window = page.window }, redrawn-went w wiped_state y (line_of x.tables.line) x.tables.line.pos e cleared.layout cleared.session x.tables cleared.tables r (refl, refl) refl cleared.prepares left cleared.paints.styles wiped-sound (line-good x.tables) (line-place x.tables.line) placed low cleared.paints.styled (buffer_of x.tables) (moment_of x v) clear page_blank refl refl refl (redrawn-heeds w wiped_state y (line_of x.tables.line) x.tables.line.pos e cleared.layout cleared.session x.tables cleared.tables r (refl, refl) refl cleared.prepares left cleared.paints.styles wiped-sound (line-good x.tables) (line-place x.tables.line) placed low page_blank) cleared-writes (cleared.paints.bytes ∙ body_is))

-- a clear that was judged and drawn
pub cleared-acted : {T H : Type 0} (w : World T H) (x y : State T H) (e : Placed) (r : Result Unit BrokenAct) → JudgesEnds w.columns x.session x.tables (w.extent x.terminal) clear (line_of x.tables.line) x.tables.line.pos (Ok e)
    → Cleared w e x r y → Acted w x clear (outcome_of r) y
cleared-acted w x y e r judges cleared =
    went-acted w x y clear r (cleared-settings w x y e r cleared)
    (cleared-layout w x y e r cleared)
    (λ s. cleared-sound w x y e r cleared s (judges.refuses s) (judges.tells s))
    (λ s. judges.refuses s)
    (λ s v. cleared-went w x y e r cleared s (judges.refuses s) (judges.tells s) v)
