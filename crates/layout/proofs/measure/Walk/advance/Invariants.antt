use Rattle.layout.proofs.Walking.{Walked}
use Rattle.widths.specs.Walks.{bytes_left}
use Rattle.layout.proofs.measure.Walk.advance.Given as goal

-- each cluster goes down a row at most
abbrev pub invariant-loop-cluster : goal.invariant-loop-cluster
invariant-loop-cluster g l = Walked g.W.WidthTable.columns l.rows.cols l.rows.tab_stop l.text l.initial.walk (bytes_left l.cluster-iterator) l.walk
