use Rattle.std.proofs.Common.{sym, ◌∙◌}
use Rattle.widths.proofs.Standing.{passed-more, passed-stop}
use Rattle.widths.proofs.clusters.marks_behind.Goals as goal

pub loop-next-preserved : goal.loop-next-preserved
loop-next-preserved g c = passed-more _ _ _ _ _ c.in-Some.next c.loop-next.invariant c.in-Some.ensures.steps (sym c.is_mark.ensures ∙ c.if-not-is_mark.false)

pub returns-then-not-is_mark-clause-next : goal.returns-then-not-is_mark-clause-next
returns-then-not-is_mark-clause-next g c =
    λ plain. passed-stop _ _ _ _ _ c.in-Some.next c.loop-next.invariant c.in-Some.ensures.steps (sym c.is_mark.ensures ∙ c.if-not-is_mark.true)
