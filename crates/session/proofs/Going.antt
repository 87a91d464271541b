-- The cursor at another edit position: places and layouts, and from what was judged, asked and written to the act.
use Rattle.std.proofs.Common.{◌≡◌, ℕ, ◌+◌, ◌<◌, ◌≤◌, Bool, true, false, cond, eqb, leb, List, [], ◌++◌, length, take, drop, IfSome, Some, None, Ok, Err, Option, sym, refl, ap, ◌∙◌, subst, inl, inr, le_trans, arith, length-append}
use Rattle.judging.specs.Judgements.{Behind, JudgesLine, Low}
use Rattle.layout.proofs.GoodTexts.{walk_place-append}
use Rattle.layout.specs.Drawing.{walk_place}
use Rattle.layout.specs.Measuring.{at_end, in_rows, next_row, starting}
use Rattle.layout.specs.declared.block.Layout.{Layout}
use Rattle.layout.specs.declared.layout.Position.{Position}
use Rattle.layout.specs.declared.measure.Walk.{Walk}
use Rattle.lines.proofs.Buffers.{line-short, line-place}
use Rattle.lines.proofs.Buffers as buffers
use Rattle.lines.specs.Lines.{line_of}
use Rattle.lines.specs.declared.line_buffer.LineBuffer.{LineBuffer}
use Rattle.measuring.proofs.Reaching.{some-none, some_same}
use Rattle.measuring.specs.Measured.{Walks}
use Rattle.judging.specs.declared.judging.Placed.{Placed}
use Rattle.page.proofs.Needing.{nothing-some}
use Rattle.page.proofs.Spelt.{good-cut, good-decodes}
use Rattle.page.specs.Rules.{Needs, NothingElse}
use Rattle.screen.proofs.Counting.{block-place}
use Rattle.screen.specs.Places.{top_left}
use Rattle.session.specs.Going.{CursorAt, LaysBare}
use Rattle.std.proofs.lemmas.List.{take-append-drop}
use Rattle.std.proofs.lemmas.Bool.{cond_both, leb-false}
use Rattle.std.specs.Str.{chars}
use Rattle.terminal.specs.Windows.{geometry}
use Rattle.terminal.specs.declared.size.Size.{Size}
use Rattle.text.proofs.Spelling.{all-good-append}
use Rattle.text.specs.Texts.{GoodText}
use Rattle.text.specs.declared.refusal.Refusal.{Refusal}
use Rattle.text.specs.declared.refusal.Refusal.TheVariants.{Tall}

-- a place in the rows is that place
in-rows-some : (q r : Position) → in_rows q ≡ Some r → r ≡ q
in-rows-some q r = by (leb q.row 65535)
  where
    by : (b : Bool) → cond b (Some q) None ≡ Some r → r ≡ q
    by true e = sym (some_same e)
    by false e = absurd (some-none e)

in-rows-none : (q : Position) → in_rows q ≡ None → 65535 < q.row
in-rows-none q e = leb-false q.row 65535 (by (leb q.row 65535) e)
  where
    by : (b : Bool) → cond b (Some q) None ≡ None → b ≡ false
    by true e = absurd (some-none (sym e))
    by false e = refl

end_row : (cols : ℕ) (p : Position) → (at_end cols p).row ≤ p.row + 1
end_row cols p = cond_both (eqb p.col cols) (next_row p) p (λ (q : Position). q.row ≤ p.row + 1) (λ _. omega arith) (λ _. omega arith)

-- the walk over the line up to its edit position
module _ (w : ℕ → ℕ) (narrow : (c : ℕ) → w c ≤ 2) (p : Position) (z : Size) (b : LineBuffer) (front : List ℕ) (cols : ℕ) (o : Option Position) (is : front ≡ take b.pos (line_of b)) (wide : cols ≡ z.cols) (walked : Walks w cols p front o) where
  abbrev before : List ℕ
  before = take b.pos (line_of b)

  walks : Walks w z.cols p before o
  walks = subst (λ (n : ℕ). Walks w n p before o) wide (subst (λ (t : List ℕ). Walks w cols p t o) is walked)

  good : GoodText before
  good = (good-cut (line_of b) b.pos (buffers.line-good b) (line-place b)).0

  short : length before ≤ 4096
  short =
      let both = ap length (take-append-drop b.pos (line_of b)) in
      let sum = length-append before (drop b.pos (line_of b)) in
      let len = line-short b in
      omega arith

  reached : (ps : List ℕ) → Behind w z ps p → o ≡ Some (walk_place z.cols w (ps ++ chars before) top_left)
  reached ps at =
      let low = at.prompt.low in
      let len = short in
      walks.reached z.wide good (omega arith)
      ∙ ap Some (ap (walk_place z.cols w (chars before)) at.prompt.place ∙ sym (walk_place-append w z.cols ps (chars before) top_left))

  -- does not fail
  pub cursor-unreached : (q : Position) → o ≡ None → CursorAt w p z b q
  cursor-unreached q none ps at = absurd (some-none (sym none ∙ reached ps at))

  module _ (e : Position) (some : o ≡ Some e) (s : Walk) (begun : s ≡ starting e) (n : ℕ) (same : n ≡ z.cols) (r : Option Position) (ends : r ≡ in_rows (at_end n s.position)) where
    end_is : r ≡ in_rows (at_end z.cols e)
    end_is = ends ∙ (λ i. in_rows (at_end (same i) (begun i).position))

    -- and its end, a full row counting as the next, is the place of the edit position
    pub cursor-reached : (q : Position) → r ≡ Some q → CursorAt w p z b q
    cursor-reached q it ps at =
        in-rows-some (at_end z.cols e) q (sym end_is ∙ it)
        ∙ ap (at_end z.cols) (some_same (sym some ∙ reached ps at))
        ∙ block-place (geometry w z) (λ c. le_trans (narrow c) z.wide) (ps ++ chars before) (all-good-append ps (chars before) at.good (good-decodes before good))

    pub cursor-lost : (q : Position) → r ≡ None → CursorAt w p z b q
    cursor-lost q none ps at =
        let high = in-rows-none (at_end z.cols e) (sym end_is ∙ none) in
        let row = end_row z.cols e in
        let low = at.prompt.low in
        let len = short in
        let rows : IfSome (Some e) (λ x. x.row ≤ p.row + length before) = subst (λ (x : Option Position). IfSome x (λ y. y.row ≤ p.row + length before)) some walks.rows in
        absurd (omega arith)

-- the line alone, measured and laid out
module _ (w : ℕ → ℕ) (p : Position) (z : Size) (b : LineBuffer) where
  pub alone-laid : (e : Placed) → JudgesLine w p z (line_of b) b.pos (Ok e) → LaysBare w p z b e.layout
  alone-laid e judged ps at low = (judged ps at).tells.laid

  pub alone-refused : (e : Refusal) (l : Layout) → JudgesLine w p z (line_of b) b.pos (Err e) → LaysBare w p z b l
  alone-refused e l judged ps at low = absurd (by (judged ps at).refuses)
    where
      by : Needs (Low (geometry w z) ps (line_of b) []) Tall NothingElse (Some e) → ⊥
      by (inl x) = x.0 low
      by (inr x) = nothing-some e x.1
