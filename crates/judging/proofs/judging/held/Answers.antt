use Rattle.std.proofs.Common.{◌≡◌, Err, rules}
use Rattle.judging.proofs.Judgements.{holds, holds_not}
use Rattle.text.specs.declared.refusal.Refusal.TheVariants.{Tall}
use Rattle.judging.proofs.judging.held.Goals as goal

pub returns-in_err-layout : goal.returns-in_err-layout
returns-in_err-layout g c =
    let refused : c.from_residual-in_err-layout.result ≡ Err Tall = search rules in
    rw refused
    (holds_not g.W.WidthTable.columns c.args.window.prompt c.args.window.size c.args.ends c.in_ok-ends.ends c.in_ok-ends.ensures.ok_part (rw c.in_err-layout.ensures.ok_part at c.line_layout.ensures))

pub returns : goal.returns
returns g c =
    holds g.W.WidthTable.columns c.args.window.prompt c.args.window.size c.args.ends c.in_ok-ends.ends c.in_ok-layout.layout c.in_ok-ends.ensures.ok_part (rw c.in_ok-layout.ensures.ok_part at c.line_layout.ensures)
