-- `copy_visible` meets its contract. Assumes nothing.
use Rattle.std.proofs.Common.{rules}
use Rattle.text.proofs.Walks.{room, copied_none, copied_more}
use Rattle.text.proofs.styled.copy_visible.Goals as goal

pub loop-shown-init : goal.loop-shown-init
loop-shown-init c = rw c.into_iter-shown-iterator.ensures.into_iter_gives (copied_none c.args.bytes.now c.args.out.now)

pub slice_bounds-copy_from_slice-end : goal.slice_bounds-copy_from_slice-end
slice_bounds-copy_from_slice-end c =
    let h = room _ _ _ _ _ _ _ c.loop-shown.invariant (rw c.in_ok-shown.was at c.in-Some.ensures.steps) c.requires c.loop-shown.auto.out in
    search rules

pub loop-shown-preserved : goal.loop-shown-preserved
loop-shown-preserved c =
    let p = rw c.in_ok-shown.was at c.in-Some.ensures.steps in
    let h = room _ _ _ _ _ _ _ c.loop-shown.invariant p c.requires c.loop-shown.auto.out in
    rw c.copy_from_slice.ensures.after (copied_more _ _ _ _ _ _ _ c.loop-shown.invariant p h)
