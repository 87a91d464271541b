use Rattle.std.proofs.Common.{◌≡◌, ◌+◌, ◌<◌, ◌≤◌, length, get_or, take, sym, ap, ◌∙◌, subst, arith}
use Rattle.screen.specs.Bytes.{feed, step}
use Rattle.terminal.specs.Windows.{geometry}
use Rattle.grid.specs.Meaning.{shown, area}
use Rattle.grid.specs.Takings.{sofar-more, sofar-stop, sofar-all}
use Rattle.grid.proofs.grid.Grid.take_fitting.Goals as goal

pub returns-in-Err : goal.returns-in-Err
returns-in-Err g c =
    let s = c.args.self.now in
    let w = g.W.WidthTable.columns in
    let t = c.loop-i.self in
    let b = get_or c.args.bytes.now c.loop-i.i 0 in
    let inv = c.loop-i.invariant in
    let told = c.in-Err.ensures in
    let full = subst (λ z. t.depth < (step (geometry w z) b (shown t)).top + z.rows) inv.2 told.1 in
    record {
      count = sofar-stop (area w s) s.depth c.args.bytes.now (shown s) c.loop-i.i (shown t) c.loop-i-test.true inv.0 (omega (arith, inv.1, full));
      drawn = record { shows = told.0.shows ∙ inv.0.drawn; depth = told.0.depth ∙ inv.1; size = told.0.size ∙ inv.2 };
    }

pub loop-i-preserved : goal.loop-i-preserved
loop-i-preserved g c =
    let s = c.args.self.now in
    let w = g.W.WidthTable.columns in
    let t = c.loop-i.self in
    let b = get_or c.args.bytes.now c.loop-i.i 0 in
    let inv = c.loop-i.invariant in
    let told = c.in_default.ensures in
    let here = told.0.shows ∙ ap (λ z. step (geometry w z) b (shown t)) inv.2 in
    let room = subst (λ z. (step (geometry w z) b (shown t)).top + z.rows ≤ t.depth) inv.2 told.1 in
    (sofar-more (area w s) s.depth c.args.bytes.now (shown s) c.loop-i.i (shown t) (shown c.step.new.self) c.loop-i-test.true inv.0 here (omega (arith, inv.1, room)), told.0.depth ∙ inv.1, told.0.size ∙ inv.2)

pub returns : goal.returns
returns g c =
    let s = c.args.self.now in
    let w = g.W.WidthTable.columns in
    let inv = c.loop-i.invariant in
    let bytes = c.args.bytes.now in
    let all : c.loop-i.i ≡ length bytes = omega (arith, c.loop-i-test.false, c.loop-i.auto.i-end) in
    record {
      count = sym all ∙ sofar-all (area w s) s.depth bytes (shown s) c.loop-i.i (shown c.loop-i.self) c.loop-i-test.false inv.0;
      drawn = record { shows = inv.0.drawn ∙ ap (λ n. feed (area w s) (take n bytes) (shown s)) all; depth = inv.1; size = inv.2 };
    }
