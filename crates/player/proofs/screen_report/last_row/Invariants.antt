use Rattle.std.proofs.Common.{ℕ, ◌<◌, ◌≤◌}
use Rattle.player.specs.Rows.{BlankRow}
use Rattle.player.proofs.screen_report.last_row.Given as goal

-- the rows that were looked at are blank
abbrev pub invariant-loop-row : goal.invariant-loop-row
invariant-loop-row g l = (i : ℕ) → l.row ≤ i → i < l.end → BlankRow l.cols (g.S.Visible.seen l.terminal) i
