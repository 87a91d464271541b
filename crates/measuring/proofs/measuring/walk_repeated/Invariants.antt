use Rattle.measuring.specs.Measured.{Repeats}
use Rattle.std.proofs.Common.{Some}
use Rattle.measuring.proofs.measuring.walk_repeated.Given as goal

-- the place is where the text ends that was drawn so far
abbrev pub invariant-loop : goal.invariant-loop
invariant-loop g l = Repeats g.W.WidthTable.columns l.cols l.initial.place l.text l.counter (Some l.place)
