-- `check_styled` meets its contract. Assumes nothing.
use Rattle.std.proofs.Common.{rules}
use Rattle.text.proofs.Walks.{shown-fits, styled-more, styled-none}
use Rattle.text.proofs.styled.check_styled.Goals as goal

pub loop-shown-init : goal.loop-shown-init
loop-shown-init c = rw c.into_iter-shown-iterator.ensures.into_iter_gives (styled-none c.args.bytes.now)

pub overflow_add-len : goal.overflow_add-len
overflow_add-len c =
    let p = rw c.in_ok-len.was at c.in-Some.ensures.steps in
    let h = shown-fits _ _ _ (styled-more _ _ _ _ _ c.loop-shown.invariant p) in
    search rules

pub loop-shown-preserved : goal.loop-shown-preserved
loop-shown-preserved c = styled-more _ _ _ _ _ c.loop-shown.invariant (rw c.in_ok-len.was at c.in-Some.ensures.steps)
