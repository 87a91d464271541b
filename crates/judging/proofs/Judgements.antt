-- From checks, measured places and layouts to judgements.
use Rattle.std.proofs.Common.{◌≡◌, ℕ, ◌+◌, ◌*◌, ◌≤◌, List, length, Some, None, Ok, Err, Option, Result, sym, refl, subst, inl, inr, arith}
use Rattle.judging.proofs.Heights.{low-none, not_low}
use Rattle.judging.specs.Judgements.{Holding, JudgesInsert, JudgesLine, JudgesMessage, JudgesSet, Low, inserted}
use Rattle.judging.specs.declared.judging.Placed.{Placed}
use Rattle.layout.specs.declared.block.Layout.{Layout}
use Rattle.layout.specs.declared.layout.Position.{Position}
use Rattle.lines.proofs.Buffers.{line-good, line-place, line-short}
use Rattle.lines.proofs.Rules.{insert-fine, note-fine, update-fine}
use Rattle.lines.specs.Lines.{InsertRule, line_of, UpdateRule}
use Rattle.lines.specs.Notes.{NoteRule}
use Rattle.lines.specs.declared.line_buffer.LineBuffer.{LineBuffer}
use Rattle.measuring.specs.Measured.{Computes, Inserts, Measures}
use Rattle.measuring.specs.declared.measuring.LineEnds.{LineEnds}
use Rattle.page.proofs.Spelt.{insert-boundary, insert-good, one-good}
use Rattle.page.specs.Rules.{AtBoundary}
use Rattle.std.specs.Option.{ok_or}
use Rattle.terminal.specs.Windows.{geometry}
use Rattle.terminal.specs.declared.size.Size.{Size}
use Rattle.text.specs.Texts.{GoodText}
use Rattle.text.specs.declared.refusal.Refusal.{Refusal}
use Rattle.text.specs.declared.refusal.Refusal.TheVariants.{Tall}

module _ (w : ℕ → ℕ) (p : Position) (z : Size) where
  -- places with a layout are held
  pub holds : (o : Option LineEnds) (e : LineEnds) (l : Layout) → o ≡ Some e → Computes w z p e None (Some l) → Holding w p z o (Ok (record { ends = e; layout = l }))
  holds o e l is laid = subst (λ (x : Option LineEnds). Holding w p z x (Ok (record { ends = e; layout = l }))) (sym is) held
    where
      held : Holding w p z (Some e) (Ok (record { ends = e; layout = l }))
      held ps line pos b good cut ends =
          let both = laid ps line pos b.good b.prompt good cut ends tt in
          record { refuses = inr (low-none (geometry w z) ps line both.0, refl); tells = record { ends = ends; laid = both.1 } }

  -- places without one are too high
  pub holds_not : (o : Option LineEnds) (e : LineEnds) → o ≡ Some e → Computes w z p e None None → Holding w p z o (Err Tall)
  holds_not o e is none = subst (λ (x : Option LineEnds). Holding w p z x (Err Tall)) (sym is) tall
    where
      tall : Holding w p z (Some e) (Err Tall)
      tall ps line pos b good cut ends = record { refuses = inl (not_low (geometry w z) ps line (none ps line pos b.good b.prompt good cut ends tt), refl); tells = tt }

  -- what was measured by a copy of the line, the position and the width
  measures-same : (line copy : List ℕ) (pos q cols : ℕ) (o : Option LineEnds) → copy ≡ line → q ≡ pos → cols ≡ z.cols → Measures w cols p copy q o → Measures w z.cols p line pos o
  measures-same line copy pos q cols o same place wide m =
      subst (λ (n : ℕ). Measures w n p line pos o) wide (subst (λ (n : ℕ). Measures w cols p line n o) place (subst (λ (x : List ℕ). Measures w cols p x q o) same m))

  inserts-same : (line copy t : List ℕ) (pos q n cols : ℕ) (o : Option LineEnds) → copy ≡ line → q ≡ pos → cols ≡ z.cols → Inserts w cols p copy q t n o → Inserts w z.cols p line pos t n o
  inserts-same line copy t pos q n cols o same place wide m =
      subst (λ (k : ℕ). Inserts w k p line pos t n o) wide (subst (λ (k : ℕ). Inserts w cols p line k t n o) place (subst (λ (x : List ℕ). Inserts w cols p x q t n o) same m))

  -- a good line is measured, and its places judged
  measured : (line : List ℕ) (pos : ℕ) (o : Option LineEnds) (r : Result Placed Refusal) → GoodText line → length line ≤ 4096 → AtBoundary line pos → Measures w z.cols p line pos o → Holding w p z o r → JudgesLine w p z line pos r
  measured line pos None r good short cut m h ps b = absurd (m ps b.prompt good short cut)
  measured line pos (Some e) r good short cut m h ps b = h ps line pos b good cut (m ps b.prompt good short cut)

  pub judges-line : (b : LineBuffer) (copy : List ℕ) (q cols : ℕ) (o : Option LineEnds) (r : Result Placed Refusal) → copy ≡ line_of b → q ≡ b.pos → cols ≡ z.cols → Measures w cols p copy q o → Holding w p z o r → JudgesLine w p z (line_of b) b.pos r
  judges-line b copy q cols o r same place wide m h =
      measured (line_of b) b.pos o r (line-good b) (line-short b) (line-place b) (measures-same (line_of b) copy b.pos q cols o same place wide m) h

  pub judges-set : (line : List ℕ) (pos cols : ℕ) (o : Option LineEnds) (r : Result Placed Refusal) → UpdateRule line pos None → cols ≡ z.cols → Measures w cols p line pos o → Holding w p z o r → JudgesSet w p z line pos r
  judges-set line pos cols o r rule wide m h ps b =
      let fine = update-fine line pos rule in
      let judged = measured line pos o r fine.0 fine.1 fine.2 (measures-same line line pos pos cols o refl refl wide m) h ps b in
      record { refuses = inr (fine.0, inr (fine.1, inr (fine.2, judged.refuses))); tells = judged.tells }

  -- a character put into the line
  put : (line t : List ℕ) (pos n : ℕ) (o : Option LineEnds) (r : Result Placed Refusal) → GoodText line → AtBoundary line pos → InsertRule line t n None → Inserts w z.cols p line pos t n o → Holding w p z o r → JudgesInsert w p z line pos t n r
  put line t pos n None r good cut rule m h ps b = let fine = insert-fine line t n rule in absurd (m ps b.prompt good fine.1 cut fine.0)
  put line t pos n (Some e) r good cut rule m h ps b =
      let fine = insert-fine line t n rule in
      let one = one-good t fine.0 in
      let judged = h ps (inserted line pos t n) (pos + n * length t) b (insert-good line t pos n good cut one) (insert-boundary line t pos n good cut one) (m ps b.prompt good fine.1 cut fine.0) in
      record { refuses = inr (fine.0, inr (fine.1, judged.refuses)); tells = judged.tells }

  pub judges-insert : (b : LineBuffer) (copy t : List ℕ) (q n cols : ℕ) (o : Option LineEnds) (r : Result Placed Refusal) → InsertRule (line_of b) t n None → copy ≡ line_of b → q ≡ b.pos → cols ≡ z.cols → Inserts w cols p copy q t n o → Holding w p z o r → JudgesInsert w p z (line_of b) b.pos t n r
  judges-insert b copy t q n cols o r rule same place wide m h =
      put (line_of b) t b.pos n o r (line-good b) (line-place b) rule (inserts-same (line_of b) copy t b.pos q n cols o same place wide m) h

  -- a message below the line
  module _ (b : LineBuffer) (copy t : List ℕ) (q cols : ℕ) (rule : NoteRule t None) (same : copy ≡ line_of b) (place : q ≡ b.pos) (wide : cols ≡ z.cols) where
    pub message-unmeasured : (r : Result Layout Refusal) → Measures w cols p copy q None → JudgesMessage w p z (line_of b) b.pos t r
    message-unmeasured r m ps at = absurd (measures-same (line_of b) copy b.pos q cols None same place wide m ps at.prompt (line-good b) (line-short b) (line-place b))

    pub message-laid : (e : LineEnds) (o : Option Layout) → Measures w cols p copy q (Some e) → Computes w z p e (Some t) o → JudgesMessage w p z (line_of b) b.pos t (ok_or o Tall)
    message-laid e (Some l) m laid ps at =
        let fine = note-fine t rule in
        let ends = measures-same (line_of b) copy b.pos q cols (Some e) same place wide m ps at.prompt (line-good b) (line-short b) (line-place b) in
        let both = laid ps (line_of b) b.pos at.good at.prompt (line-good b) (line-place b) ends fine in
        record { refuses = inr (fine.0, inr (fine.1, inr (both.0, refl))); tells = both.1 }
    message-laid e None m none ps at =
        let fine = note-fine t rule in
        let ends = measures-same (line_of b) copy b.pos q cols (Some e) same place wide m ps at.prompt (line-good b) (line-short b) (line-place b) in
        let high = none ps (line_of b) b.pos at.good at.prompt (line-good b) (line-place b) ends fine in
        record { refuses = inr (fine.0, inr (fine.1, inl ((λ (low : Low (geometry w z) ps (line_of b) t). omega arith), refl))); tells = tt }
