-- `check_styled` meets its contract. Assumes nothing.
use Rattle.text.proofs.Walks.{StyledTo}
use Rattle.text.proofs.styled.check_styled.Given as goal

abbrev pub invariant-loop-shown : goal.invariant-loop-shown
invariant-loop-shown l = StyledTo l.bytes l.shown-iterator.0.now l.len
