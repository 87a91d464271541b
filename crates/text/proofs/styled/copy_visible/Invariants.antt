-- `copy_visible` meets its contract. Assumes nothing.
use Rattle.text.proofs.Walks.{CopiedTo}
use Rattle.text.proofs.styled.copy_visible.Given as goal

abbrev pub invariant-loop-shown : goal.invariant-loop-shown
invariant-loop-shown l = CopiedTo l.bytes l.shown-iterator.0.now l.initial.out l.out l.filled
