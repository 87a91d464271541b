use Rattle.player.specs.Rows.{BlankRow}
use Rattle.player.proofs.screen_report.is_blank_row.Given as goal

-- the cells so far are blank
abbrev pub invariant-loop-col : goal.invariant-loop-col
invariant-loop-col g l = BlankRow l.col (g.S.Visible.seen l.terminal) l.row
