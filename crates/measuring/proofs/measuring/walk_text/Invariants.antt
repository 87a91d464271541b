use Rattle.measuring.proofs.Walking.{Walked}
use Rattle.measuring.proofs.measuring.walk_text.Given as goal

-- what is left leads to where the text ends
abbrev pub invariant-loop-c : goal.invariant-loop-c
invariant-loop-c g l = Walked g.W.WidthTable.columns l.cols l.fn.from l.fn.text l.c-iterator.rest.now l.place
