-- A message below the line: from what was judged, stored, asked and drawn to the act.
use Rattle.std.proofs.Common.{◌≡◌, ℕ, ◌<◌, Bool, true, false, ◌&&◌, List, [], ◌++◌, Some, None, Ok, Err, Result, sym, refl, ap, subst, inr, append_assoc, append-nil, arith}
use Rattle.judging.proofs.Heights.{low-none}
use Rattle.judging.specs.Fitting.{LaidOut}
use Rattle.judging.specs.Judgements.{Low}
use Rattle.layout.specs.declared.block.Layout.{Layout}
use Rattle.lines.proofs.Rules.{note-once}
use Rattle.lines.specs.Lines.{line_of}
use Rattle.lines.specs.Notes.{Sets, note_of}
use Rattle.lines.specs.declared.note.Note.{Note}
use Rattle.page.proofs.Admitting.{Admitted, admitted}
use Rattle.page.proofs.Spelt.{good-decodes}
use Rattle.page.specs.Acts.{message}
use Rattle.page.specs.Law.{World}
use Rattle.page.specs.Rules.{Outcome}
use Rattle.page.specs.declared.outcome.BrokenAct.{BrokenAct}
use Rattle.page.specs.declared.outcome.Rejection.TheVariants.{Refused}
use Rattle.screen.specs.Screen.{Geometry, blank_paper, block, place_row}
use Rattle.session.proofs.Acting.{refused-acted, went-acted}
use Rattle.session.proofs.Heights.{front_low, line-good}
use Rattle.session.proofs.Painting.{painted-layout, painted-settings, painted-sound, painted-went, view_painted}
use Rattle.session.specs.Acting.{Acted, outcome_of, state_of}
use Rattle.session.specs.Asking.{Asked}
use Rattle.session.specs.Judging.{JudgesAct}
use Rattle.session.specs.Painting.{Painted}
use Rattle.session.specs.Sessions.{Shown, Sound, State, View, is_torn, page_of, prompt_of}
use Rattle.session.specs.declared.session.Session.{Session}
use Rattle.session.specs.declared.tables.Tables.{Tables}
use Rattle.std.specs.Str.{chars}
use Rattle.terminal.specs.Windows.{geometry}
use Rattle.terminal.specs.declared.size.Size.{Size}
use Rattle.text.specs.Texts.{GoodText}
use Rattle.text.specs.declared.refusal.Refusal.{Refusal}

-- a line is not higher than with its message
bare-with : (w : ℕ → ℕ) (z : Size) (ps line t : List ℕ) → GoodText t → Low (geometry w z) ps line t → place_row (geometry w z) (block (geometry w z) (ps ++ (chars line ++ []))) < z.rows
bare-with w z ps line t good low =
    let h = front_low (geometry w z) (ps ++ chars line) (chars t) (let k = z.wide in omega arith) (good-decodes t good) in
    let e : place_row (geometry w z) (block (geometry w z) ((ps ++ chars line) ++ chars t)) ≡ place_row (geometry w z) (block (geometry w z) (ps ++ (chars line ++ chars t))) = ap (λ (x : List ℕ). place_row (geometry w z) (block (geometry w z) x)) (append_assoc ps (chars line) (chars t)) in
    let f : place_row (geometry w z) (block (geometry w z) (ps ++ (chars line ++ []))) ≡ place_row (geometry w z) (block (geometry w z) (ps ++ chars line)) = ap (λ (x : List ℕ). place_row (geometry w z) (block (geometry w z) (ps ++ x))) (append-nil (chars line)) in
    omega arith

module _ {T H : Type 0} (w : World T H) (x : State T H) (t : List ℕ) where
  abbrev s : Session
  s = x.session

  abbrev b : Tables
  b = x.tables

  abbrev d : Geometry
  d = geometry w.columns s.size

  abbrev Judged : Result Layout Refusal → Type 0
  Judged r = JudgesAct w.columns s b (w.extent x.terminal) (message t) (LaidOut d (prompt_of b) (line_of b.line) b.line.pos (Some t)) r

  -- the tables with another note and hint
  abbrev noted : Note → Note → Tables
  noted n h = record { prompt = b.prompt; line = b.line; note = n; hint = h; renderer = b.renderer }

  -- a judgement that refuses
  pub message-refused : (e : Refusal) → Judged (Err e) → Acted w x (message t) (Err (Refused e)) x
  message-refused e j = refused-acted w x (message t) e j.refuses

  module _ (l : Layout) (j : Judged (Ok l)) where
    fine : Sound w.columns s b → (v : View) → Admitted d (prompt_of b) (is_torn s.standing) ((w.extent x.terminal ≡ s.size) × (s.begun ≡ s.size)) (message t) (page_of s b v)
    fine sound v = admitted d (prompt_of b) (is_torn s.standing) ((w.extent x.terminal ≡ s.size) × (s.begun ≡ s.size)) (message t) (page_of s b v) (j.refuses sound v)

    -- a note that is refused although the judgement accepted it
    pub message-unset : (e : Refusal) (n : Note) → Sets t b.note (Err e) n → Acted w x (message t) (Err (Refused e)) (state_of x.terminal x.highlighter s (noted n b.hint))
    message-unset e n sets =
        subst (λ (m : Note). Acted w x (message t) (Err (Refused e)) (state_of x.terminal x.highlighter s (noted m b.hint))) (sym sets.1)
        (refused-acted w x (message t) e (λ sound v. let a = fine sound v in absurd (note-once t e (inr (a.text, inr (a.short, refl))) sets.0)))

    -- a message that is stored and drawn
    module _ (y : State T H) (o : Outcome) (r : Result Unit BrokenAct) (u : Unit {0}) (n h : Note) (anew : Bool) (lit : Session) (ended : o ≡ outcome_of r) (sets : Sets t b.note (Ok u) n) (cleared : note_of h ≡ None)
        (asked : Asked w.heeds_other x.highlighter b.line s anew lit y.highlighter)
        (paint : Painted w.answered (w.lights y.highlighter) (w.lights_prompt y.highlighter) (w.lights_hint y.highlighter) l lit (noted n h) x.terminal r y.session y.tables y.terminal) where
      shown : Sound w.columns s b → (v : View) → Shown d (prompt_of b) (line_of b.line) b.line.pos (Some t) None l
      shown sound v =
          let a = fine sound v in
          let bare = bare-with w.columns s.size (prompt_of b) (line_of b.line) t a.text a.height in
          record { line = low-none d (prompt_of b) (line_of b.line) bare; hint = bare; whole = a.height; laid = j.tells sound }

      -- any view will do for what does not depend on it
      abbrev anywhere : View
      anywhere = record { upper = blank_paper; base = 0; window = 0 }

      pub message-acted : Acted w x (message t) o y
      message-acted = subst (λ (q : Outcome). Acted w x (message t) q y) (sym ended)
          (went-acted w x y (message t) r (painted-settings w x y (line_of b.line) b.line.pos (Some t) None l lit (noted n h) r asked.session (refl, refl) refl sets.1 cleared paint)
          (painted-layout w x y (line_of b.line) b.line.pos (Some t) None l lit (noted n h) r asked.session (refl, refl) refl sets.1 cleared paint)
          (λ sound. painted-sound w x y (line_of b.line) b.line.pos (Some t) None l lit (noted n h) r asked.session (refl, refl) refl sets.1 cleared paint sound (line-good b) (shown sound anywhere))
          j.refuses
          (λ sound v.
          let a = fine sound v in (
            view_painted w x y (line_of b.line) b.line.pos (Some t) None l lit (noted n h) r asked.session (refl, refl) refl sets.1 cleared paint sound (line-good b) (shown sound v) a.size.1 (untorn (is_torn s.standing) a.untorn) v,
            painted-went w x y (line_of b.line) b.line.pos (Some t) None l lit (noted n h) r asked.session (refl, refl) refl sets.1 cleared paint sound (line-good b) (shown sound v) a.size.1 (untorn (is_torn s.standing) a.untorn) v
                (message t) refl refl asked.heard refl refl,
          )))
        where
          untorn : (k : Bool) → (k && true) ≡ false → k ≡ false
          untorn true e = e
          untorn false e = e
