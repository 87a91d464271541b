use Rattle.std.proofs.Common.{◌+◌, Some, refl}
use Rattle.screen.specs.Screen.{placed}
use Rattle.grid.proofs.Writes.{row-written}
use Rattle.grid.proofs.grid.Grid.take_cells.Goals as goal

pub returns : goal.returns
returns g c =
    let s = c.args.self.now in
    let at = c.here-here.ensures in
    let spacing = c.args.spacing in
    let paper = row-written s s.row (placed spacing.width spacing.c s.col) c.place.new.cells c.deref_mut.ensures.value at.start at.end at.within c.place.auto.cells (rw c.from.ensures at c.place.ensures) in
    record {
      shows = λ i. record { pen = record { paper = paper i; row = s.row; col = s.col + c.from-2.ensures i; join = Some s.col }; top = s.top; held = s.held; parser = s.parser };
      depth = refl;
      size = refl;
    }
