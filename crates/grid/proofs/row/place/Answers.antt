use Rattle.std.proofs.Common.{◌≡◌, ◌+◌, set, length-set, None, ap, ◌∙◌, arith}
use Rattle.screen.specs.Screen.{split}
use Rattle.screen.specs.declared.cells.Cell.TheVariants.{Glyph, RightHalf}
use Rattle.grid.specs.Meaning.{row_of}
use Rattle.grid.proofs.Rows.{one_cell, row-set, placed_one, placed-two}
use Rattle.grid.proofs.row.place.Goals as goal

pub returns-then-spacing-eq2 : goal.returns-then-spacing-eq2
returns-then-spacing-eq2 c =
    let col = c.args.col in
    let k = c.args.spacing.width in
    let row = row_of c.args.cells.now in
    let glyph = Glyph c.args.spacing.c None in
    let edged = c.split-2.new.cells in
    let edges : row_of edged ≡ split (col + k) (split col row) = c.split-2.ensures ∙ (λ i. split (col + c.from.ensures i) (c.split.ensures i)) in
    row-set (set edged col glyph) (col + 1) RightHalf (omega (arith, length-set edged col glyph))
    ∙ ap (one_cell (col + 1) RightHalf) (row-set edged col glyph (omega arith) ∙ ap (one_cell col glyph) edges)
    ∙ rw c.if-spacing-eq2.true (placed-two c.args.spacing.c col row)

pub returns-else-spacing-eq2 : goal.returns-else-spacing-eq2
returns-else-spacing-eq2 c =
    let col = c.args.col in
    let k = c.args.spacing.width in
    let row = row_of c.args.cells.now in
    let glyph = Glyph c.args.spacing.c None in
    let edged = c.split-2.new.cells in
    let one : k ≡ 1 = omega arith in
    let edges : row_of edged ≡ split (col + k) (split col row) = c.split-2.ensures ∙ (λ i. split (col + c.from.ensures i) (c.split.ensures i)) in
    row-set edged col glyph (omega arith) ∙ ap (one_cell col glyph) edges ∙ rw one (placed_one c.args.spacing.c col row)
