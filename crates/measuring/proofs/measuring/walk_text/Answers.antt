use Rattle.std.proofs.Common.{ap, ◌∙◌, arith}
use Rattle.measuring.proofs.Walking.{walked_all, walked_more, walked_none, walked_not, walked_room}
use Rattle.measuring.proofs.measuring.walk_text.Goals as goal

pub returns-in_default : goal.returns-in_default
returns-in_default g c = let h = rw c.in_default.is at c.from_utf8.ensures.cases in walked_not _ _ _ _ h.0

pub loop-c-init : goal.loop-c-init
loop-c-init g c =
    let t = c.in-Ok.ensures.cases in
    walked_none _ _ _ _ _ (ap (λ x. x.rest.now) c.into_iter-c-iterator.ensures.into_iter_gives ∙ c.chars-c-items.ensures.rest ∙ t.0) t.1

pub step_place-place-requires : goal.step_place-place-requires
step_place-place-requires g c = walked_room _ _ _ _ _ _ _ _ c.loop-c.invariant c.in-Some.ensures.steps.0 (omega (arith, c.if-text-from.false))

pub loop-c-preserved : goal.loop-c-preserved
loop-c-preserved g c = rw c.step_place-place.ensures (walked_more _ _ _ _ _ _ _ _ c.loop-c.invariant c.in-Some.ensures.steps.0)

pub returns : goal.returns
returns g c = walked_all _ _ _ _ _ _ c.loop-c.invariant c.in-None.ensures.steps.0.0
