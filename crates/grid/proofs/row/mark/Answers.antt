use Rattle.std.proofs.Common.{sym, ap, ◌∙◌}
use Rattle.screen.specs.Screen.{marked}
use Rattle.screen.specs.declared.cells.Cell.TheVariants.{Glyph}
use Rattle.grid.specs.Meaning.{row_of}
use Rattle.grid.proofs.Rows.{standing, row-set, unmarked, mark-glyph, mark-none}
use Rattle.grid.proofs.row.mark.Goals as goal

pub returns-in-Glyph : goal.returns-in-Glyph
returns-in-Glyph c =
    let xs = c.args.cells.now in
    let col = c.args.col in
    let m = c.args.mark in
    let x = Glyph c.in-Glyph.c c.in-Glyph.field-1 in
    row-set xs col (marked m x) (standing xs col x c.in-Glyph.ensures (λ e. cc)) ∙ mark-glyph m col (row_of xs) x (sym c.in-Glyph.ensures)

pub returns-in_default : goal.returns-in_default
returns-in_default c =
    let m = c.args.mark in
    let same = unmarked m c.at.result c.in_default.not-Glyph in
    sym (mark-none m c.args.col (row_of c.args.cells.now) (ap (marked m) (sym c.at.ensures) ∙ same ∙ c.at.ensures))
