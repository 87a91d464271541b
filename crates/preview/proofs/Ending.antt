-- Where two good texts end, one behind the other.
use Rattle.std.proofs.Common.{◌≡◌, ℕ, ◌≤◌, eqb, leb, List, ◌++◌, Some, None, Option, sym, ap, ◌∙◌, subst, arith}
use Rattle.layout.proofs.GoodTexts.{walk_place-append, went_on}
use Rattle.layout.specs.Drawing.{walk_place}
use Rattle.layout.specs.Measuring.{Advances, at_end, in_rows, next_row, starting}
use Rattle.layout.specs.declared.layout.Position.{Position}
use Rattle.layout.specs.declared.measure.Walk.{Walk}
use Rattle.preview.specs.Previewing.{EndsAt}
use Rattle.screen.specs.Places.{top_left}
use Rattle.std.proofs.lemmas.Bool.{cond_both, cond-true, le-leb}
use Rattle.std.proofs.lemmas.Option.{none-some, same_Some}

module _ (w : ℕ → ℕ) (cols : ℕ) (fits : (c : ℕ) → w c ≤ cols) where
  abbrev Answer : List ℕ → List ℕ → Option Position
  Answer cs ds = Some (at_end cols (walk_place cols w (cs ++ ds) top_left))

  -- the first walk does not fail
  pub no-first : (s : Walk) (first second : List ℕ) (r : Option Walk) (o : Option Position) → s ≡ starting top_left → Advances w first cols 8 s r → r ≡ None → EndsAt w cols first second o
  no-first s first second r o e a none cs ds sf ss len = absurd (none-some (starting (walk_place cols w cs top_left)) (sym none ∙ (went_on w cols fits top_left s first cs r e sf (omega arith) a).is))

  -- nor does the second
  pub no_second : (s t : Walk) (first second : List ℕ) (r u : Option Walk) (o : Option Position) → s ≡ starting top_left → Advances w first cols 8 s r → r ≡ Some t → Advances w second cols 8 t u → u ≡ None → EndsAt w cols first second o
  no_second s t first second r u o e a it b none cs ds sf ss len =
      let x = went_on w cols fits top_left s first cs r e sf (omega arith) a in
      let at = same_Some t (starting (walk_place cols w cs top_left)) (sym it ∙ x.is) in
      let row = x.row in
      absurd (none-some (starting (walk_place cols w ds (walk_place cols w cs top_left))) (sym none ∙ (went_on w cols fits (walk_place cols w cs top_left) t second ds u at ss (omega arith) b).is))

  end_row : (p : Position) → p.row ≤ 65000 → (at_end cols p).row ≤ 65535
  end_row p h = cond_both (eqb p.col cols) (next_row p) p (λ (q : Position). q.row ≤ 65535) (λ e. omega arith) (λ e. omega arith)

  -- both walks, and the end rule
  pub at-end : (s t v : Walk) (first second : List ℕ) (r u : Option Walk) (o : Option Position) → s ≡ starting top_left → Advances w first cols 8 s r → r ≡ Some t → Advances w second cols 8 t u → u ≡ Some v → o ≡ in_rows (at_end cols v.position) → EndsAt w cols first second o
  at-end s t v first second r u o e a it b iu io cs ds sf ss len =
      let x = went_on w cols fits top_left s first cs r e sf (omega arith) a in
      let at = same_Some t (starting (walk_place cols w cs top_left)) (sym it ∙ x.is) in
      let row = x.row in
      let y = went_on w cols fits (walk_place cols w cs top_left) t second ds u at ss (omega arith) b in
      let row2 = y.row in
      let is : v.position ≡ walk_place cols w (cs ++ ds) top_left = ap (λ (z : Walk). z.position) (same_Some v (starting (walk_place cols w ds (walk_place cols w cs top_left))) (sym iu ∙ y.is)) ∙ sym (walk_place-append w cols cs ds top_left) in
      let low : (walk_place cols w (cs ++ ds) top_left).row ≤ 65000 = subst (λ (z : Position). z.row ≤ 65000) (sym (walk_place-append w cols cs ds top_left)) (omega arith) in
      io ∙ ap (λ (p : Position). in_rows (at_end cols p)) is ∙ cond-true (leb (at_end cols (walk_place cols w (cs ++ ds) top_left)).row 65535) _ _ (le-leb (at_end cols (walk_place cols w (cs ++ ds) top_left)).row 65535 (end_row (walk_place cols w (cs ++ ds) top_left) low))
