-- What a renderer styles is what the session's contracts say.
use Rattle.std.proofs.Common.{◌≡◌, ℕ, Bool, true, false, cond, List, Some, None, Option, Result, ap, subst}
use denote.Ref.{Bor}
use Rattle.highlight.specs.declared.highlight.Highlighter.{Ghosts}
use Rattle.layout.specs.declared.block.Layout.{Layout}
use Rattle.page.specs.declared.outcome.BrokenAct.{BrokenAct}
use Rattle.render.specs.Drawing as render
use Rattle.render.specs.Drawing.{Composes, Drew, Styles, Texts, now_of}
use Rattle.render.specs.Notices.{Printed}
use Rattle.session.specs.Styling.{StyledTexts}
use Rattle.std.specs.Bool.{then_some}
use Rattle.terminal.specs.Answers.{WriteAnswer}

-- a highlighter for colours, none without
abbrev pub lit_by : {H : Type 0} → Bool → H → Option H
lit_by colours h = cond colours (Some h) None

-- a highlighter lent for colours alone
pub lent : {H : Type 0} (colours : Bool) (r : Bor H) (o : Option (Bor H)) → o ≡ then_some colours r → now_of o ≡ lit_by colours r.now
lent true r o e = ap now_of e
lent false r o e = ap now_of e

module _ {H : Type 0} (asked : Ghosts H) (h : H) (x : Texts) where
  abbrev Styled : Bool → Styles → Type 0
  Styled colours s = StyledTexts (asked.lights h) (asked.lights_prompt h) (asked.lights_hint h) colours x s

  styled : (colours : Bool) (o : Option H) (s : Styles) → o ≡ lit_by colours h → render.StyledTexts asked o x s → Styled colours s
  styled colours o s is k = by colours (subst (λ (q : Option H). render.StyledTexts asked q x s) is k)
    where
      by : (b : Bool) → render.StyledTexts asked (lit_by b h) x s → Styled b s
      by true c = record { prompt = c.prompt; line = c.line; note = c.note }
      by false c = c

  pub drew-styled : {T : Type 0} {answered : T → List ℕ → WriteAnswer → T → Type 0} (colours : Bool) (o : Option H) (old : Option Layout) (new : Layout) (holds : Bool) (before after : T) (r : Result Unit BrokenAct) (buffer : List ℕ)
      → o ≡ lit_by colours h → Drew answered (render.StyledTexts asked o x) old new holds before r after buffer → Drew answered (Styled colours) old new holds before r after buffer
  drew-styled colours o old new holds before after r buffer is d = record { styles = d.styles; styled = styled colours o d.styles is d.styled; bytes = d.bytes; short = d.short; written = d.written }

  pub composes-styled : (colours : Bool) (o : Option H) (old : Option Layout) (new : Layout) (n : ℕ) (buffer : List ℕ)
      → o ≡ lit_by colours h → Composes (render.StyledTexts asked o x) old new n buffer → Composes (Styled colours) old new n buffer
  composes-styled colours o old new n buffer is d = record { styles = d.styles; styled = styled colours o d.styles is d.styled; bytes = d.bytes; short = d.short; erased = d.erased }

  pub printed-styled : {T : Type 0} {answered : T → List ℕ → WriteAnswer → T → Type 0} (colours : Bool) (o : Option H) (old new : Layout) (text : List ℕ) (holds : Bool) (before after : T) (r : Result Unit BrokenAct) (buffer : List ℕ)
      → o ≡ lit_by colours h → Printed answered (render.StyledTexts asked o x) old new text holds before r after buffer → Printed answered (Styled colours) old new text holds before r after buffer
  printed-styled colours o old new text holds before after r buffer is d = record { styles = d.styles; styled = styled colours o d.styles is d.styled; bytes = d.bytes; written = d.written }
