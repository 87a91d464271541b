-- Refresh and set.
use Rattle.std.proofs.Common.{◌≡◌, ℕ, List, Some, Ok, Err, Result, sym, refl, subst, inr}
use Rattle.lines.proofs.Buffers.{line-place}
use Rattle.lines.proofs.Rules.{update-once}
use Rattle.lines.specs.Lines.{Holds, line_of, UpdateRule}
use Rattle.lines.specs.declared.line_buffer.LineBuffer.{LineBuffer}
use Rattle.judging.specs.declared.judging.Placed.{Placed}
use Rattle.page.proofs.Admitting.{Admitted, admitted}
use Rattle.page.specs.Acts.{Act, refresh, set}
use Rattle.page.specs.Law.{World}
use Rattle.page.specs.Rules.{Outcome}
use Rattle.page.specs.declared.outcome.BrokenAct.{BrokenAct}
use Rattle.page.specs.declared.outcome.Rejection.TheVariants.{Refused}
use Rattle.session.proofs.Acting.{refused-acted}
use Rattle.session.proofs.Heights.{line-good}
use Rattle.session.proofs.Redrawing.{anew-acted, bare_view, painted-left, redrawn-layout}
use Rattle.session.specs.Acting.{Acted, outcome_of, state_of}
use Rattle.session.specs.Judging.{JudgesEnds}
use Rattle.session.specs.Refreshing.{Refreshed}
use Rattle.session.specs.Sessions.{Sound, State, is_torn, page_of, prompt_of}
use Rattle.session.specs.declared.tables.Tables.{Tables}
use Rattle.terminal.specs.Windows.{geometry}
use Rattle.text.specs.declared.refusal.Refusal.{Refusal}

-- the tables with another line
abbrev pub with_line : LineBuffer → Tables → Tables
with_line q b = record { prompt = b.prompt; line = q; note = b.note; hint = b.hint; renderer = b.renderer }

module _ {T H : Type 0} (w : World T H) (x : State T H) where
  -- an act whose change of the line is refused in the end, which cannot be where it was judged
  pub line_refused : (a : Act) (e : Refusal) (q : LineBuffer) → q ≡ x.tables.line → (Sound w.columns x.session x.tables → ⊥) → Acted w x a (Err (Refused e)) (state_of x.terminal x.highlighter x.session (with_line q x.tables))
  line_refused a e q is never = subst (λ (l : LineBuffer). Acted w x a (Err (Refused e)) (state_of x.terminal x.highlighter x.session (with_line l x.tables))) (sym is) (refused-acted w x a e (λ s. absurd (never s)))

module _ {T H : Type 0} (w : World T H) (x y : State T H) (e : Placed) (r : Result Unit BrokenAct) (o : Outcome) (is : o ≡ outcome_of r) where
  pub refresh-acted : JudgesEnds w.columns x.session x.tables (w.extent x.terminal) refresh (line_of x.tables.line) x.tables.line.pos (Ok e) → Refreshed w e x r y → Acted w x refresh o y
  refresh-acted judged f =
      subst (λ (p : Outcome). Acted w x refresh p y) (sym is)
      (anew-acted w x y (line_of x.tables.line) x.tables.line.pos e f.layout f.session x.tables f.tables r (refl, refl) refl f.prepares (painted-left f.paints) f.paints.drew.styles f.paints.drew.styled f.paints.drew.written f.paints.drew.bytes
      refresh judged (λ _. (line-good x.tables, line-place x.tables.line)) refl (λ v h. h) (λ v. refl) (λ v. refl) (λ v q h. h) (λ t v. refl) (λ t v. refl)
      (redrawn-layout w x y (line_of x.tables.line) x.tables.line.pos e f.layout f.session x.tables f.tables r (refl, refl) refl f.prepares (painted-left f.paints) f.paints.drew.styles))

module _ {T H : Type 0} (w : World T H) (x : State T H) (line : List ℕ) (pos : ℕ) (e : Placed) (judged : JudgesEnds w.columns x.session x.tables (w.extent x.terminal) (set line pos) line pos (Ok e)) where
  met : Sound w.columns x.session x.tables → Admitted (geometry w.columns x.session.size) (prompt_of x.tables) (is_torn x.session.standing) ((w.extent x.terminal ≡ x.session.size) × (x.session.begun ≡ x.session.size)) (set line pos) (page_of x.session x.tables bare_view)
  met s = admitted (geometry w.columns x.session.size) (prompt_of x.tables) (is_torn x.session.standing) ((w.extent x.terminal ≡ x.session.size) × (x.session.begun ≡ x.session.size)) (set line pos) (page_of x.session x.tables bare_view) (judged.refuses s bare_view)

  -- the line takes what was judged
  pub set-never : (k : Refusal) → UpdateRule line pos (Some k) → Sound w.columns x.session x.tables → ⊥
  set-never k h s = let m = met s in update-once line pos k (inr (m.text, inr (m.short, inr (m.place, refl)))) h

  pub set-acted : (y : State T H) (r : Result Unit BrokenAct) (o : Outcome) → o ≡ outcome_of r → (q : LineBuffer) → Holds line pos q → Refreshed w e (state_of x.terminal x.highlighter x.session (with_line q x.tables)) r y → Acted w x (set line pos) o y
  set-acted y r o is q held f =
      subst (λ (p : Outcome). Acted w x (set line pos) p y) (sym is)
      (anew-acted w x y line pos e f.layout f.session (with_line q x.tables) f.tables r held refl f.prepares (painted-left f.paints) f.paints.drew.styles f.paints.drew.styled f.paints.drew.written f.paints.drew.bytes
      (set line pos) judged (λ s. ((met s).text, (met s).place)) refl (λ v h. h) (λ v. refl) (λ v. refl) (λ v q h. h) (λ t v. refl) (λ t v. refl)
      (redrawn-layout w x y line pos e f.layout f.session (with_line q x.tables) f.tables r held refl f.prepares (painted-left f.paints) f.paints.drew.styles))
