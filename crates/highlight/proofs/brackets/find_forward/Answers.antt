use Rattle.std.proofs.Common.{◌+◌, refl, sym, ◌∙◌}
use Rattle.std.proofs.lemmas.List.{take_rest}
use Rattle.std.proofs.lemmas.Bool.{eqb-true, eqb-false}
use Rattle.highlight.specs.Balances.{opening-apart, left-more, left-none, searching-all}
use Rattle.highlight.proofs.brackets.find_forward.Goals as goal

pub returns-then-meets : goal.returns-then-meets
returns-then-meets c =
    let i = c.loop-i.invariant in
    let found = left-none i.counts c.loop-i-test.true (opening-apart c.args.bracket c.requires.opening) refl (rw i.same at c.meets.ensures.count) (eqb-true _ _ (sym c.meets.ensures.none ∙ c.if-meets.true)) in
    let index = rw (take_rest c.args.line.now (c.args.pos + 1)) at found.0 in
    rw (index, ← found.1)

pub loop-i-preserved : goal.loop-i-preserved
loop-i-preserved c =
    let i = c.loop-i.invariant in
    record {
      same = c.meets.ensures.bracket ∙ i.same;
      counts = left-more i.counts c.loop-i-test.true (opening-apart c.args.bracket c.requires.opening) refl (rw i.same at c.meets.ensures.count) (eqb-false _ _ (sym c.meets.ensures.none ∙ c.if-meets.false)) refl;
    }

pub returns : goal.returns
returns c =
    let none = searching-all c.loop-i.invariant.counts c.loop-i-test.false in
    rw (← take_rest c.args.line.now (c.args.pos + 1), none)
