use Rattle.std.proofs.Common.{◌-◌, arith}
use Rattle.player.proofs.Blanks.{none-between, down-to}
use Rattle.player.proofs.screen_report.last_row.Goals as goal
use Rattle.screen.specs.declared.cells.Cell.TheVariants.{Blank}

pub loop-row-init : goal.loop-row-init
loop-row-init g c = λ i h k. none-between h k

pub returns-then-not-is_blank_row : goal.returns-then-not-is_blank_row
returns-then-not-is_blank_row g c =
    record { cursor = omega arith; behind = λ i h k l. c.loop-row.invariant i (omega arith) (omega arith) }

pub loop-row-preserved : goal.loop-row-preserved
loop-row-preserved g c =
    down-to (g.S.Visible.seen c.args.terminal.now).pen.paper Blank c.args.cols (c.loop-row.row - 1) c.saturating_add-end.result (λ i h k. c.loop-row.invariant i (omega arith) k) (c.is_blank_row.ensures c.if-not-is_blank_row.false)

pub returns : goal.returns
returns g c =
    record { cursor = omega arith; behind = λ i h k l. c.loop-row.invariant i (omega arith) (omega arith) }
