use Rattle.std.proofs.Common.{◌-◌, set, length-set, sym, ap, ◌∙◌, arith}
use Rattle.screen.specs.Screen.{is_half}
use Rattle.screen.specs.declared.cells.Cell.TheVariants.{Blank, RightHalf}
use Rattle.grid.specs.Meaning.{row_of}
use Rattle.grid.proofs.Rows.{one_cell, standing, row-set, whole, split-none, split-two, split-first}
use Rattle.grid.proofs.row.split.Goals as goal

pub returns-then-col-gt0 : goal.returns-then-col-gt0
returns-then-col-gt0 c =
    let xs = c.args.cells.now in
    let col = c.args.col in
    let here = standing xs col RightHalf c.in-RightHalf.ensures (λ e. cc) in
    row-set (set xs col Blank) (col - 1) Blank (omega (arith, length-set xs col Blank)) ∙ ap (one_cell (col - 1) Blank) (row-set xs col Blank here)
    ∙ split-two col (row_of xs) (sym (ap is_half c.in-RightHalf.ensures)) c.if-col-gt0.true

pub returns-else-col-gt0 : goal.returns-else-col-gt0
returns-else-col-gt0 c =
    let xs = c.args.cells.now in
    let col = c.args.col in
    let here = standing xs col RightHalf c.in-RightHalf.ensures (λ e. cc) in
    row-set xs col Blank here ∙ split-first col (row_of xs) (sym (ap is_half c.in-RightHalf.ensures)) (omega arith)

pub returns-in_default : goal.returns-in_default
returns-in_default c = sym (split-none c.args.col (row_of c.args.cells.now) (sym (ap is_half c.at.ensures) ∙ whole c.at.result c.in_default.not-RightHalf))
