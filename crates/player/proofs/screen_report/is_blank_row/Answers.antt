use Rattle.std.proofs.Common.{sym, ◌∙◌, arith}
use Rattle.player.proofs.Blanks.{none-between, up-to}
use Rattle.player.proofs.screen_report.is_blank_row.Goals as goal
use Rattle.screen.specs.declared.cells.Cell.TheVariants.{Blank}

pub loop-col-init : goal.loop-col-init
loop-col-init g c = λ j h. none-between (omega arith) h

pub loop-col-preserved : goal.loop-col-preserved
loop-col-preserved g c =
    up-to ((g.S.Visible.seen c.args.terminal.now).pen.paper c.args.row) Blank c.loop-col.col c.loop-col.invariant (sym c.cell.ensures ∙ c.in-Blank.is)

pub returns : goal.returns
returns g c = λ e j h. c.loop-col.invariant j (omega arith)
