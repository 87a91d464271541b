use Rattle.std.proofs.Common.{◌≡◌, ℕ, Some, subst, arith}
use Rattle.measuring.proofs.Reaching.{repeats-more, repeats-none, repeats-stuck}
use Rattle.measuring.specs.Measured.{Repeats}
use Rattle.measuring.proofs.measuring.walk_repeated.Goals as goal

pub loop-init : goal.loop-init
loop-init g c = repeats-none g.W.WidthTable.columns g.met.W.WidthTable.narrow c.args.cols c.args.from c.args.text.now

pub loop-preserved : goal.loop-preserved
loop-preserved g c =
    repeats-more g.W.WidthTable.columns g.met.W.WidthTable.narrow c.args.cols c.args.from c.args.text.now c.loop.counter c.loop.place c.in_ok-place.place c.loop.invariant c.in_ok-place.ensures

pub returns-in_err-place : goal.returns-in_err-place
returns-in_err-place g c =
    rw c.from_residual.ensures
    (repeats-stuck g.W.WidthTable.columns g.met.W.WidthTable.narrow c.args.cols c.args.from c.args.text.now c.loop.counter c.args.count c.loop.place c.loop-test.true c.loop.invariant c.in_err-place.ensures)
