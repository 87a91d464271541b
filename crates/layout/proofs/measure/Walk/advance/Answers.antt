use Rattle.std.proofs.Common.{sym, ap, ◌∙◌}
use Rattle.widths.specs.Walks.{bytes_left}
use Rattle.layout.proofs.Walking.{taken-ok, taken-err, walked_none, walked_more, advances-all, advances-stuck}
use Rattle.layout.proofs.measure.Walk.advance.Goals as goal

pub loop-cluster-init : goal.loop-cluster-init
loop-cluster-init g c = walked_none _ _ _ _ _ _ (ap bytes_left c.into_iter-cluster-iterator.ensures.into_iter_gives ∙ c.new-cluster-items.ensures)

pub returns-in_err-ok : goal.returns-in_err-ok
returns-in_err-ok g c =
    rw c.from_residual.ensures
    (advances-stuck _ _ _ _ _ _ _ c.loop-cluster.invariant (taken-err _ _ _ c.in-Some.cluster c.in-Some.ensures.steps (sym c.ok.ensures.value ∙ c.in_err-ok.was)))

pub loop-cluster-preserved : goal.loop-cluster-preserved
loop-cluster-preserved g c =
    rw c.step-walk.ensures
    (walked_more _ _ _ _ _ _ _ _ _ c.loop-cluster.invariant (taken-ok _ _ _ c.in-Some.cluster _ c.in-Some.ensures.steps (sym c.ok.ensures.value ∙ c.in_ok-ok.was)))

pub returns : goal.returns
returns g c = advances-all _ _ _ _ _ _ _ c.loop-cluster.invariant c.in-None.ensures.steps.0 (sym c.has_room.ensures ∙ c.if-not-has_room.false)
