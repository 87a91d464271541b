use Rattle.widths.proofs.Standing.{Passed}
use Rattle.widths.proofs.clusters.marks_behind.Given as goal

-- what was passed are marks
abbrev pub invariant-loop-next : goal.invariant-loop-next
invariant-loop-next g l = Passed g.W.WidthTable.columns l.bytes l.len l.next-iterator.0.now
