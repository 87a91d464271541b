use Rattle.std.proofs.Common.{◌≡◌}
use Rattle.grid.specs.Meaning.{shown, area}
use Rattle.grid.specs.Takings.{Sofar}
use Rattle.grid.proofs.grid.Grid.take_fitting.Given as goal

-- the bytes passed fit, and have worked
abbrev pub invariant-loop-i : goal.invariant-loop-i
invariant-loop-i g l =
    Sofar (area g.W.WidthTable.columns l.initial.self) l.initial.self.depth l.bytes (shown l.initial.self) l.i (shown l.self)
    × (l.self.depth ≡ l.initial.self.depth) × (l.self.size ≡ l.initial.self.size)
