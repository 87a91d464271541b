-- Insert: drawn anew, or the character written by itself.
use Rattle.std.proofs.Common.{◌≡◌, ℕ, ◌+◌, ◌*◌, Bool, true, false, not, ◌&&◌, ◌||◌, eqb, ltb, List, [], ◌∷◌, ◌++◌, length, is_some, Some, Ok, Result, sym, refl, ap, ◌∙◌, subst, inr, append-nil}
use Rattle.session.specs.Styling.{StyledTexts}
use borrow.Author.Tests.{clash}
use lib.Utf8.{encode}
use Rattle.judging.specs.Judgements.{inserted}
use Rattle.layout.specs.declared.block.Layout.{Layout}
use Rattle.lines.proofs.Buffers.{line-place}
use Rattle.lines.proofs.Rules.{insert-once}
use Rattle.lines.specs.Lines.{Holds, InsertRule, line_of}
use Rattle.lines.specs.Notes.{note_of}
use Rattle.lines.specs.declared.line_buffer.LineBuffer.{LineBuffer}
use Rattle.judging.specs.declared.judging.Placed.{Placed}
use Rattle.page.proofs.Admitting.{Admitted, admitted}
use Rattle.page.proofs.Inserting.{brought}
use Rattle.page.proofs.Spelt.{insert-boundary, insert-good, one-good}
use Rattle.page.specs.Acts.{Replies, edited, hinted, insert}
use Rattle.page.specs.Law.{Moment, World, Written}
use Rattle.page.specs.Output.{direct, framed, redraw}
use Rattle.page.specs.Page.{Page}
use Rattle.page.specs.Rules.{AtBoundary, Outcome}
use Rattle.page.specs.declared.outcome.BrokenAct.{BrokenAct}
use Rattle.render.specs.Composing.{composed}
use Rattle.render.specs.Drawing.{Styles, draw_layout, old_rows, texts_of}
use Rattle.screen.specs.Screen.{Geometry}
use Rattle.session.proofs.Acting.{WentBuffered, went-acted}
use Rattle.session.proofs.Anew.{with_line}
use Rattle.session.proofs.Heights.{line-good}
use Rattle.session.proofs.Redrawing.{Left, anew-acted, bare_view, note-is, painted-left, untorn, was-shown}
use Rattle.session.proofs.Redrawing as anew
use Rattle.session.specs.Acting.{Acted, outcome_of}
use Rattle.session.specs.Buffering.{buffer_of, redrawing}
use Rattle.session.specs.Judging.{JudgesEnds}
use Rattle.session.specs.Preparing.{Prepared}
use Rattle.session.specs.Sessions.{Shown, Sound, State, View, is_torn, moment_of, page_of, prompt_of, settings_of}
use Rattle.session.specs.Typing.{ColumnsOf, in_row}
use Rattle.session.specs.declared.session.Session.{Session}
use Rattle.session.specs.declared.tables.Tables.{Tables}
use Rattle.std.proofs.lemmas.Bool.{cond-false, cond-true}
use Rattle.terminal.specs.Windows.{geometry}
use Rattle.text.proofs.Decodes.{front_same}
use Rattle.text.specs.Decoding.{Front, NoCharacter}
use Rattle.text.specs.declared.decode.Decoded.{Decoded}
use Rattle.text.specs.Texts.{GoodText}
use Rattle.text.specs.declared.refusal.Refusal.{Refusal}

-- the columns of the character that was found
pub columns-found : (w : ℕ → ℕ) (text : List ℕ) (d : Decoded) → Front text d → ColumnsOf w text (w d.code)
columns-found w text d found one =
    let k = brought w text one in
    ap w (front_same text [] k.char d found (sym k.bytes ∙ sym (append-nil (encode k.char)))).0 ∙ sym k.width

-- and there is one
pub columns-none : (w : ℕ → ℕ) (text : List ℕ) → NoCharacter text → ColumnsOf w text 0
columns-none w text none one = let k = brought w text one in absurd (none k.char [] k.good.0 (sym k.bytes ∙ sym (append-nil (encode k.char))))

-- seven conditions in two groups
and-groups : (a b c d e f : Bool) → ((a && (b && (c && (d && e)))) && f) ≡ (a && (b && (c && (d && (e && f)))))
and-groups true true true true e f = refl
and-groups true true true false e f = refl
and-groups true true false d e f = refl
and-groups true false c d e f = refl
and-groups false b c d e f = refl

module _ {T H : Type 0} (w : World T H) (x y : State T H) (text : List ℕ) (n : ℕ) (e : Placed) (judged : JudgesEnds w.columns x.session x.tables (w.extent x.terminal) (insert text n) (inserted (line_of x.tables.line) x.tables.line.pos text n) (x.tables.line.pos + n * length text) (Ok e)) where
  abbrev d : Geometry
  d = geometry w.columns x.session.size

  abbrev ps : List ℕ
  ps = prompt_of x.tables

  abbrev ln : List ℕ
  ln = inserted (line_of x.tables.line) x.tables.line.pos text n

  abbrev pos : ℕ
  pos = x.tables.line.pos + n * length text

  abbrev Belongs : Type 0
  Belongs = Sound w.columns x.session x.tables

  met : Belongs → (v : View) → Admitted d ps (is_torn x.session.standing) ((w.extent x.terminal ≡ x.session.size) × (x.session.begun ≡ x.session.size)) (insert text n) (page_of x.session x.tables v)
  met t v = admitted d ps (is_torn x.session.standing) ((w.extent x.terminal ≡ x.session.size) × (x.session.begun ≡ x.session.size)) (insert text n) (page_of x.session x.tables v) (judged.refuses t v)

  good-after : Belongs → GoodText ln
  good-after t = insert-good (line_of x.tables.line) text x.tables.line.pos n (line-good x.tables) (line-place x.tables.line) (one-good text (met t bare_view).text)

  place_after : Belongs → AtBoundary ln pos
  place_after t = insert-boundary (line_of x.tables.line) text x.tables.line.pos n (line-good x.tables) (line-place x.tables.line) (one-good text (met t bare_view).text)

  pub insert-never : (k : Refusal) → InsertRule (line_of x.tables.line) text n (Some k) → Belongs → ⊥
  insert-never k h t = let m = met t bare_view in insert-once (line_of x.tables.line) text n k (inr (m.text, inr (m.short, refl))) h

  module _ (q : LineBuffer) (held : Holds ln pos q) (l : Layout) (s : Session) (c : Tables) (r : Result Unit BrokenAct) (prep : Prepared w e x.highlighter x.session (with_line q x.tables) l s c y.highlighter)
      (left : Left l s c r y.session y.tables) (styles : Styles) (cols : ℕ) (width : ColumnsOf w.columns text cols) (row again : Bool) (row_is : row ≡ in_row x.session x.tables n cols)
      (decided : again ≡ (row && (not (is_some (note_of c.note)) && not (s.lit || x.session.lit)))) where
    abbrev replies : Replies
    replies = anew.replies w x y ln pos e l s (with_line q x.tables) c r held refl prep left styles

    -- the test of the code is that of the law
    module _ (t : Belongs) (v : View) where
      abbrev p : Page
      p = page_of x.session x.tables v

      abbrev after : Page
      after = hinted d ps replies (edited d ps ln pos p)

      was : Shown d ps (line_of x.tables.line) x.tables.line.pos (note_of x.tables.note) (note_of x.tables.hint) x.session.layout
      was = was-shown w x y ln pos e l s (with_line q x.tables) c r held refl prep left styles t (good-after t) (place_after t) (judged.tells t) (met t v).height (met t v).size.1 (untorn (is_torn x.session.standing) false refl (met t v).untorn) v

      note-now : note_of c.note ≡ after.note
      note-now = sym (ap note_of left.note) ∙ note-is w x y ln pos e l s (with_line q x.tables) c r held refl prep left styles t (good-after t) (place_after t) (judged.tells t) (met t v).height

      pub direct_is : direct d ps text n replies p after ≡ again
      direct_is =
          sym (decided ∙ ap (λ (k : Bool). k && (not (is_some (note_of c.note)) && not (s.lit || x.session.lit))) row_is
          ∙ and-groups (eqb x.tables.line.pos (length (line_of x.tables.line))) (eqb n 1) (ltb 0 cols) (ltb (x.session.layout.cursor.col + cols) x.session.size.cols) (not (is_some (note_of x.tables.note))) (not (is_some (note_of c.note)) && not (s.lit || x.session.lit))
          ∙ (λ i. eqb x.tables.line.pos (length (line_of x.tables.line)) && (eqb n 1 && (ltb 0 (width (met t v).text i) && (ltb ((was.laid.cursor i).col + width (met t v).text i) x.session.size.cols && (not (is_some (note_of x.tables.note)) && (not (is_some (note-now i)) && not (s.lit || x.session.lit))))))))

    -- drawn anew
    pub insert-anew : again ≡ false → (Written w.answered x.terminal (framed s.holds ((old_rows (Some s.layout) ++ draw_layout styles l) ∷ [])) r y.terminal)
        → buffer_of y.tables ≡ old_rows (Some s.layout) ++ draw_layout styles l
        → StyledTexts (w.lights y.highlighter) (w.lights_prompt y.highlighter) (w.lights_hint y.highlighter) s.colours (texts_of c.prompt c.line c.note) styles
        → (o : Outcome) → o ≡ outcome_of r → Acted w x (insert text n) o y
    insert-anew no-direct written composes styled o is =
        subst (λ (u : Outcome). Acted w x (insert text n) u y) (sym is)
        (anew-acted w x y ln pos e l s (with_line q x.tables) c r held refl prep left styles styled written composes
        (insert text n) judged (λ t. (good-after t, place_after t)) refl (λ v h. h) (λ v. refl) (λ v. refl) (λ v k h. h)
        (λ t v. sym (cond-false (direct d ps text n replies (p t v) (after t v)) (text ∷ []) (redraw d ps x.session.holds replies (p t v) (after t v)) (direct_is t v ∙ no-direct)))
        (λ t v. sym (cond-false (direct d ps text n replies (p t v) (after t v)) (buffer_of x.tables) (redrawing d ps replies (p t v) (after t v)) (direct_is t v ∙ no-direct)))
        (anew.redrawn-layout w x y ln pos e l s (with_line q x.tables) c r held refl prep left styles))

    -- written by itself
    pub insert-direct : again ≡ true → Written w.answered x.terminal (text ∷ []) r y.terminal → y.tables.renderer ≡ c.renderer → (o : Outcome) → o ≡ outcome_of r → Acted w x (insert text n) o y
    insert-direct direct-now written untouched o is =
        subst (λ (u : Outcome). Acted w x (insert text n) u y) (sym is)
        (went-acted w x y (insert text n) r (anew.redrawn-settings w x y ln pos e l s (with_line q x.tables) c r held refl prep left styles)
        (anew.redrawn-layout w x y ln pos e l s (with_line q x.tables) c r held refl prep left styles)
        (λ t. anew.redrawn-sound w x y ln pos e l s (with_line q x.tables) c r held refl prep left styles t (good-after t) (place_after t) (judged.tells t) (met t bare_view).height)
        judged.refuses
        (λ t v. (record { upper = v.upper; base = v.base; window = (after t v).window }, went t v)))
      where
        went : (t : Belongs) (v : View) → WentBuffered w (settings_of x.session x.tables) (moment_of x v) (insert text n) r (buffer_of x.tables) (buffer_of y.tables) (moment_of y (record { upper = v.upper; base = v.base; window = (after t v).window }))
        went t v =
            subst (λ (m : Moment T H). WentBuffered w (settings_of x.session x.tables) (moment_of x v) (insert text n) r (buffer_of x.tables) (buffer_of y.tables) m)
            (sym (anew.redrawn-moment w x y ln pos e l s (with_line q x.tables) c r held refl prep left styles t (good-after t) (place_after t) (judged.tells t) (met t v).height (p t v) refl)) (record {
              went = record {
                replies = replies;
                hint = refl;
                hint_fine = anew.hint-fine w x y ln pos e l s (with_line q x.tables) c r held refl prep left styles;
                page = refl;
                asks = anew.redrawn-heeds w x y ln pos e l s (with_line q x.tables) c r held refl prep left styles t (good-after t) (place_after t) (judged.tells t) (met t v).height (p t v);
                styled = λ k. absurd (clash (sym (ap not (direct_is t v ∙ direct-now)) ∙ k));
                written = subst (λ (ws : List (List ℕ)). Written w.answered x.terminal ws r y.terminal) (sym (cond-true (direct d ps text n replies (p t v) (after t v)) (text ∷ []) (redraw d ps x.session.holds replies (p t v) (after t v)) (direct_is t v ∙ direct-now))) written;
                torn = refl;
              };
              buffer = ap composed (untouched ∙ prep.renderer) ∙ sym (cond-true (direct d ps text n replies (p t v) (after t v)) (buffer_of x.tables) (redrawing d ps replies (p t v) (after t v)) (direct_is t v ∙ direct-now));
            })
