-- A session that ends.
use Rattle.std.proofs.Common.{◌≡◌, ℕ, Bool, true, false, cond, ◌&&◌, eqb, ◌⊎◌, List, [], ◌∷◌, ◌++◌, None, Ok, Err, Result, sym, refl, ◌∙◌, subst, inl, inr, eq-eqb, ne_eqb}
use borrow.Author.Tests.{clash}
use Rattle.judging.specs.Judgements.{Behind, Low}
use Rattle.layout.specs.declared.block.Layout.{Layout}
use Rattle.layout.specs.declared.layout.Position.{Position}
use Rattle.lines.specs.Lines.{line_of}
use Rattle.lines.specs.Notes.{note_of}
use Rattle.lines.specs.declared.line_buffer.LineBuffer.{LineBuffer}
use Rattle.lines.specs.declared.prompt.Prompt.{Prompt}
use Rattle.measuring.specs.Measured.{Laid}
use Rattle.page.proofs.Admitting.{Admitted, admitted, some-none}
use Rattle.page.proofs.Spelt.{good_none}
use Rattle.page.specs.Acts.{Replies, closed, finish}
use Rattle.page.specs.Law.{Settings, World, Written}
use Rattle.page.specs.Output.{to_end}
use Rattle.page.specs.Page.{Page, block_text, front_text}
use Rattle.page.specs.declared.outcome.BrokenAct.{BrokenAct}
use Rattle.page.specs.declared.outcome.Rejection.TheVariants.{Broke}
use Rattle.render.proofs.Writes.{written-front}
use Rattle.screen.specs.Output.{move_bytes}
use Rattle.screen.specs.Screen.{Geometry, blank_paper}
use Rattle.session.proofs.Acting.{WentBuffered, went-acted}
use Rattle.session.proofs.Heights.{line-good, open-shown, tall-never}
use Rattle.session.proofs.Redrawing.{settings-prompt}
use Rattle.session.specs.Acting.{Acted, state_of}
use Rattle.session.specs.Buffering.{at_end, buffer_of, ending}
use Rattle.session.specs.Finishing.{Finished, Left, SameTexts, end_buffer, end_layout}
use Rattle.session.specs.Judging.{RefusesAct}
use Rattle.session.specs.Painting.{laid_at}
use Rattle.session.specs.Sessions.{Shown, Sound, State, View, is_torn, moment_of, page_of, prompt_of, settings_of}
use Rattle.session.specs.declared.session.Session.{Session}
use Rattle.session.specs.declared.standing.Standing.TheVariants.{Torn}
use Rattle.session.specs.declared.tables.Tables.{Tables}
use Rattle.std.proofs.lemmas.Bool.{cond-false}
use Rattle.terminal.specs.Windows.{geometry}
use Rattle.terminal.specs.Answers.{WriteAnswer}

-- a cursor moved to a layout's end is moved to its page's
pub laid-ends : (d : Geometry) (ps : List ℕ) (p : Page) (l : Layout) → Laid d ps (front_text ps p) (block_text ps p) l → end_layout l ≡ to_end d ps p
laid-ends d ps p l k i = cond (eqb (k.cursor i).row (k.end i).row && eqb (k.cursor i).col (k.end i).col) [] (move_bytes (k.cursor i).row (k.cursor i).col (k.end i).row (k.end i).col ∷ [])

-- and what is composed for that is the page's too
pub laid-buffer : (d : Geometry) (ps : List ℕ) (p : Page) (l : Layout) → Laid d ps (front_text ps p) (block_text ps p) l → (before : List ℕ) → end_buffer l before ≡ cond (at_end d ps p) before (ending d ps p)
laid-buffer d ps p l k before i = cond (eqb (k.cursor i).row (k.end i).row && eqb (k.cursor i).col (k.end i).col) before (move_bytes (k.cursor i).row (k.cursor i).col (k.end i).row (k.end i).col)

pub not-torn : (b : Bool) → (b && true) ≡ false → b ≡ false
not-torn true e = e
not-torn false e = e

-- two places that differ in their rows or in their columns
places-differ : (p q : Position) → ((p.row ≡ q.row) × (p.col ≡ q.col → ⊥)) ⊎ (p.row ≡ q.row → ⊥) → (eqb p.row q.row && eqb p.col q.col) ≡ false
places-differ p q (inl h) i = eq-eqb p.row q.row h.0 i && ne_eqb p.col q.col h.1 i
places-differ p q (inr h) i = ne_eqb p.row q.row h i && eqb p.col q.col

-- what a move to the end composes
pub move-composed : (l : Layout) (p q : Position) (before after : List ℕ) → p ≡ l.cursor → q ≡ l.end → ((p.row ≡ q.row) × (p.col ≡ q.col → ⊥)) ⊎ (p.row ≡ q.row → ⊥)
    → after ≡ move_bytes p.row p.col q.row q.col → after ≡ end_buffer l before
move-composed l p q before after ip iq differ is =
    is ∙ sym (cond-false (eqb p.row q.row && eqb p.col q.col) before (move_bytes p.row p.col q.row q.col) (places-differ p q differ))
    ∙ (λ i. cond (eqb (ip i).row (iq i).row && eqb (ip i).col (iq i).col) before (move_bytes (ip i).row (ip i).col (iq i).row (iq i).col))

-- a move to the end that breaks
pub move-broke : {T : Type 0} (answered : T → List ℕ → WriteAnswer → T → Type 0) (l : Layout) (p q : Position) (b c : Tables) (s t : T) (e : BrokenAct) → p ≡ l.cursor → q ≡ l.end
    → ((p.row ≡ q.row) × (p.col ≡ q.col → ⊥)) ⊎ (p.row ≡ q.row → ⊥)
    → Written answered s (move_bytes p.row p.col q.row q.col ∷ []) (Err e) t → SameTexts b c → buffer_of c ≡ move_bytes p.row p.col q.row q.col → Left answered l b s (Err e) c t
move-broke answered l p q b c s t e ip iq differ k same is = record {
  written = subst (λ (ws : List (List ℕ)). Written answered s (ws ++ ((10 ∷ []) ∷ [])) (Err e) t)
      (λ i. cond (eqb (ip i).row (iq i).row && eqb (ip i).col (iq i).col) [] (move_bytes (ip i).row (ip i).col (iq i).row (iq i).col ∷ []))
      (subst (λ (at : Bool). Written answered s (cond at [] (move_bytes p.row p.col q.row q.col ∷ []) ++ ((10 ∷ []) ∷ [])) (Err e) t) (sym (places-differ p q differ)) (written-front answered ((10 ∷ []) ∷ []) k));
  texts = same;
  buffer = move-composed l p q (buffer_of b) (buffer_of c) ip iq differ is;
}

-- whatever stands above the block
abbrev pub no_view : View
no_view = record { upper = blank_paper; base = 0; window = 0 }

-- the prompt of tables that share it ends at the same place
pub same-behind : (w : ℕ → ℕ) (s : Session) (b c : Tables) → c.prompt ≡ b.prompt → Behind w s.size (prompt_of b) s.prompt → Behind w s.size (prompt_of c) s.prompt
same-behind w s b c e h = subst (λ (q : Prompt). Behind w s.size (prompt_of (record { prompt = q; line = b.line; note = b.note; hint = b.hint; renderer = b.renderer })) s.prompt) (sym e) h

pub same_low : (d : Geometry) (b c : Tables) → c.prompt ≡ b.prompt → c.line ≡ b.line → Low d (prompt_of b) (line_of b.line) [] → Low d (prompt_of c) (line_of c.line) []
same_low d b c e f h =
    subst (λ (q : LineBuffer). Low d (prompt_of c) (line_of q) []) (sym f)
    (subst (λ (q : Prompt). Low d (prompt_of (record { prompt = q; line = b.line; note = b.note; hint = b.hint; renderer = b.renderer })) (line_of b.line) []) (sym e) h)

module _ {T H : Type 0} (w : World T H) (x : State T H) (t : T) (c : Tables)
    (judged : Sound w.columns x.session x.tables → RefusesAct w.columns x.session x.tables (w.extent x.terminal) finish None) where
  abbrev s : Session
  s = x.session

  abbrev b : Tables
  b = x.tables

  abbrev z : Settings
  z = settings_of s b

  abbrev d : Geometry
  d = geometry w.columns s.size

  abbrev ps : List ℕ
  ps = prompt_of b

  -- nothing is asked, and no text drawn
  abbrev quiet : Replies
  quiet = record { hint = None; yes = false; prompt = []; line = []; note = [] }

  -- handed back torn
  abbrev back : State T H
  back = state_of t x.highlighter (laid_at s.layout Torn s) c

  module _ (sound : Sound w.columns s b) (v : View) where
    admits : Admitted d ps (is_torn s.standing) ((w.extent x.terminal ≡ s.size) × (s.begun ≡ s.size)) finish (page_of s b v)
    admits = admitted d ps (is_torn s.standing) ((w.extent x.terminal ≡ s.size) × (s.begun ≡ s.size)) finish (page_of s b v) (judged sound v)

    was-shown : Shown d ps (line_of b.line) b.line.pos (note_of b.note) (note_of b.hint) s.layout
    was-shown = open-shown w.columns s.size ps b s.layout s.standing (sound.stands admits.size.1) (not-torn (is_torn s.standing) admits.untorn) (λ tall. tall-never w.columns s.size ps (line_of b.line) [] (line-good b) good_none tall admits.height)

    -- the writes by the layout are those by the page
    ended : (r : Result Unit BrokenAct) → Left w.answered s.layout b x.terminal r c t → Written w.answered x.terminal (to_end d ps (page_of s b v) ++ ((10 ∷ []) ∷ [])) r t
    ended r left = subst (λ (ws : List (List ℕ)). Written w.answered x.terminal (ws ++ ((10 ∷ []) ∷ [])) r t) (laid-ends d ps (page_of s b v) s.layout was-shown.laid) left.written

    composed-by : (r : Result Unit BrokenAct) → Left w.answered s.layout b x.terminal r c t → buffer_of c ≡ cond (at_end d ps (page_of s b v)) (buffer_of b) (ending d ps (page_of s b v))
    composed-by r left = left.buffer ∙ laid-buffer d ps (page_of s b v) s.layout was-shown.laid (buffer_of b)

    finished-went : Left w.answered s.layout b x.terminal (Ok tt) c t → WentBuffered w z (moment_of x v) finish (Ok tt) (buffer_of b) (buffer_of c) (record { terminal = t; highlighter = x.highlighter; page = closed d ps (page_of s b v); torn = false })
    finished-went left = record {
      went = record {
        replies = quiet;
        hint = refl;
        hint_fine = λ u e. some-none e;
        page = refl;
        asks = refl;
        styled = λ e. absurd (clash e);
        written = ended (Ok tt) left;
        torn = refl;
      };
      buffer = composed-by (Ok tt) left;
    }

    same-page : SameTexts b c → page_of (laid_at s.layout Torn s) c v ≡ page_of s b v
    same-page k i = record { line = line_of (k.line i); pos = (k.line i).pos; note = note_of (k.note i); hint = note_of (k.hint i); lit = s.lit; upper = v.upper; base = v.base; window = v.window; ended = false }

    broken-went : (e : BrokenAct) → Left w.answered s.layout b x.terminal (Err e) c t → WentBuffered w z (moment_of x v) finish (Err e) (buffer_of b) (buffer_of c) (moment_of back v)
    broken-went e left = record {
      went = record {
        replies = quiet;
        hint = refl;
        hint_fine = λ u e. some-none e;
        page = same-page left.texts;
        asks = refl;
        styled = λ e. absurd (clash e);
        written = ended (Err e) left;
        torn = refl;
      };
      buffer = composed-by (Err e) left;
    }

  -- accepted, the session is used up
  pub finished : Left w.answered s.layout b x.terminal (Ok tt) c t → Finished w x t c
  finished left = record {
    steps = λ sound v. let g = finished-went sound v left in record { step = (judged sound v, g.went); buffer = g.buffer };
    texts = left.texts;
  }

  -- broken, it is handed back
  pub finish-broke : (e : BrokenAct) → Left w.answered s.layout b x.terminal (Err e) c t → Acted w x finish (Err (Broke e)) back
  finish-broke e left =
      went-acted w x back finish (Err e) (settings-prompt s b c left.texts.prompt) (λ _. refl)
      (λ sound. record { prompt = same-behind w.columns s b c left.texts.prompt sound.prompt; stands = λ begun. same_low d b c left.texts.prompt left.texts.line (admits sound no_view).height })
      judged
      (λ sound v. (v, broken-went sound v e left))
