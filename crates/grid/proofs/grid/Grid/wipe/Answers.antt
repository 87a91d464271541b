use Rattle.std.proofs.Common.{refl, ap, ◌∙◌}
use Rattle.screen.specs.Screen.{wipe_from}
use Rattle.grid.specs.Meaning.{shown}
use Rattle.grid.specs.Steps.{drawn}
use Rattle.grid.proofs.Writes.{row-written}
use Rattle.grid.proofs.grid.Grid.wipe.Goals as goal

pub returns : goal.returns
returns g c =
    let s = c.args.self.now in
    let at = c.here-here.ensures in
    let col = c.from-col.ensures ∙ c.column.ensures in
    record {
      shows = ap (λ p. drawn p (shown s)) (row-written s s.row (wipe_from _) c.wipe.new.cells c.deref_mut.ensures.value at.start at.end at.within c.wipe.auto.cells (rw col at c.wipe.ensures));
      depth = refl;
      size = refl;
    }
