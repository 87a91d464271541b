-- `continues` meets its contract. Assumes nothing.
use Rattle.std.proofs.Common.{◌∙◌, false, length, take, Decides, sym, arith}
use Rattle.std.proofs.lemmas.Bool.{both_ways, eqb-true, eqb-false}
use Rattle.std.proofs.lemmas.Slice.Eq.{bytes_eq-Decides}
use Rattle.std.proofs.lemmas.Bool.Decides.{same_from_decides, Decides-at, Decides-like}
use Rattle.hint.specs.Scripts.{Continues, goes_on}
use Rattle.hint.proofs.Captions.{goes-on-decides, checks-decides, refuses, continues-from, continues-boundary}
use Rattle.hint.proofs.script.continues.Goals as goal
use Rattle.hint.proofs.script.continues.Goals.{then-is_empty-via-then-is_empty, then-is_empty-via-else-is_empty+then-not-is_boundary}

-- where it ends between two, the check of the caption decides
some : (c : goal.After-is_ok) → Decides c.is_ok.result (Continues c.args.line.now c.args.caption.now)
some c =
    let line = c.args.line.now in
    let caption = c.args.caption.now in
    let h = c.in-Some.ensures.cases in
    let begins = (bytes_eq-Decides (take (length line) caption) line).0 h.0 in
    let good = Decides-at c.is_ok.result _ c.is_ok.ensures.value (checks-decides caption c.check_text.result c.check_text.ensures) in
    Decides-like c.is_ok.result (continues-from line caption begins (omega (arith, h.2, eqb-false (length c.in-Some.rest.now) 0 (sym c.is_empty.ensures ∙ c.if-is_empty.false))) (c.is_boundary.ensures.place.0 c.if-not-is_boundary.false)) (λ k. k.good) good

-- no rest is left, or the line ends inside a character
pub returns-then-is_empty-clause-rule : goal.returns-then-is_empty-clause-rule
returns-then-is_empty-clause-rule c =
    let h = c.in-Some.ensures.cases in
    elim c.then-is_empty.branch [
      | then-is_empty-via-then-is_empty w ↦ refuses c.args.line.now c.args.caption.now (λ k. omega (arith, k.longer, h.2, eqb-true (length c.in-Some.rest.now) 0 (sym c.is_empty.ensures ∙ w.if-is_empty.true)))
      | then-is_empty-via-else-is_empty+then-not-is_boundary w ↦
          refuses c.args.line.now c.args.caption.now (λ k. both_ways _ w.if-not-is_boundary.true (w.is_boundary.ensures.place.1 (continues-boundary k)))
    ]

pub returns-then-is_empty-clause-value : goal.returns-then-is_empty-clause-value
returns-then-is_empty-clause-value c =
    same_from_decides false (goes_on c.args.line.now c.args.caption.now) (returns-then-is_empty-clause-rule c) (goes-on-decides c.args.line.now c.args.caption.now)

pub returns-clause-rule : goal.returns-clause-rule
returns-clause-rule c = some c

pub returns-clause-value : goal.returns-clause-value
returns-clause-value c = same_from_decides c.is_ok.result (goes_on c.args.line.now c.args.caption.now) (some c) (goes-on-decides c.args.line.now c.args.caption.now)
