use Rattle.std.proofs.Common.{◌≡◌, ℕ, suc, ◌+◌, ◌-◌, ◌<◌, max, Some, sym, refl, ap, ◌∙◌, arith}
use Rattle.screen.specs.Screen.{Screen, Geometry, Paper, on_row, mark_at, follow, combine}
use Rattle.screen.specs.declared.cells.Parser.TheVariants.{Ground}
use Rattle.grid.specs.Meaning.{shown, area}
use Rattle.grid.proofs.Writes.{row-written}
use Rattle.grid.proofs.grid.Grid.combine.Goals as goal

-- a mark on the cell last taken, the window showing the cursor already
combined : (d : Geometry) (c : ℕ) (s : Screen) (j : ℕ) (p : Paper) → s.pen.join ≡ Some j → p ≡ on_row s.pen.row (mark_at c j) s.pen.paper → s.pen.row < s.top + d.rows → record { pen = record { paper = p; row = s.pen.row; col = s.pen.col; join = s.pen.join }; top = s.top; held = s.held; parser = Ground } ≡ follow d (combine s.pen.join c s.pen) s
combined d c s j p joined marked shown =
    let top : s.top ≡ max s.top (suc s.pen.row - d.rows) = omega arith in
    (λ i. record { pen = record { paper = marked i; row = s.pen.row; col = s.pen.col; join = joined i }; top = top i; held = s.held; parser = Ground })
    ∙ ap (λ o. follow d (combine o c s.pen) s) (sym joined)

pub returns-in-Some : goal.returns-in-Some
returns-in-Some g c =
    let s = c.args.self.now in
    let at = c.here-here.ensures in
    let col = c.in-Some.col in
    let paper = row-written s s.row (mark_at c.args.c col) c.mark.new.cells c.deref_mut.ensures.value at.start at.end at.within c.mark.auto.cells (rw c.from.ensures at c.mark.ensures) in
    record { shows = combined (area g.W.WidthTable.columns s) c.args.c (shown s) col _ c.in-Some.is paper s.below; depth = refl; size = refl }
