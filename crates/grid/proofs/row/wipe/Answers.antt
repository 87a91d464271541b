use Rattle.std.proofs.Common.{◌-◌, length, drop, length-drop, replicate, rules, ap, ◌∙◌, arith}
use Rattle.std.proofs.Math.Seq.{length-take-le}
use Rattle.screen.specs.declared.cells.Cell.TheVariants.{Blank}
use Rattle.grid.specs.Meaning.{row_of}
use Rattle.grid.proofs.Rows.{clear_from, row-cleared, wipe-clear}
use Rattle.grid.proofs.row.wipe.Goals as goal

pub returns : goal.returns
returns c =
    let col = c.args.col in
    let mid = c.split.new.cells in
    let long = length-take-le (length mid - col) (drop col mid) (omega (arith, length-drop col mid)) in
    row-cleared col (length mid - col) mid c.fill.new.self (omega arith) (c.fill.ensures.after (λ y same. search rules) ∙ ap (λ n. replicate n Blank) long)
    ∙ ap (clear_from col) c.split.ensures ∙ wipe-clear col (row_of c.args.cells.now)
