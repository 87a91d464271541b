use Rattle.std.proofs.Common.{◌≡◌, length, None, sym, ap, ◌∙◌, subst, rules, arith}
use Rattle.judging.specs.declared.judging.Placed.{Placed}
use Rattle.layout.specs.declared.layout.Position.{Position}
use Rattle.lines.specs.Notes.{note_of}
use Rattle.session.proofs.Locating.{known-end, known-within}
use Rattle.session.specs.Locating.{Stood, placed_at, text_end}
use Rattle.session.specs.declared.standing.Standing.TheVariants.{Open}
use Rattle.session.proofs.session.Session.known_line.Goals as goal

pub returns-then-pos-line : goal.returns-then-pos-line
returns-then-pos-line g c begun sound =
    let stands : c.args.self.now.standing ≡ Open = search rules in
    let bare : note_of c.args.tables.now.note ≡ None = search rules in
    let same = c.text_end-end.ensures ∙ ap (λ n. text_end n c.args.self.now.layout) c.cols.ensures in
    subst (λ (e : Placed). Stood g.T.Widths.WidthTable.columns c.args.self.now c.args.tables.now e) (sym c.placed.ensures)
    (subst (λ (p : Position). Stood g.T.Widths.WidthTable.columns c.args.self.now c.args.tables.now (placed_at p p c.args.self.now)) (sym same)
    (known-end g.T.Widths.WidthTable.columns g.met.T.Widths.WidthTable.narrow c.args.self.now c.args.tables.now stands bare begun sound (sym c.pos.ensures ∙ c.if-pos-line.true ∙ ap (λ x. length x) c.line.ensures)))

pub returns : goal.returns
returns g c begun sound =
    let stands : c.args.self.now.standing ≡ Open = search rules in
    let bare : note_of c.args.tables.now.note ≡ None = search rules in
    let same = c.text_end-end.ensures ∙ ap (λ n. text_end n c.args.self.now.layout) c.cols.ensures in
    subst (λ (e : Placed). Stood g.T.Widths.WidthTable.columns c.args.self.now c.args.tables.now e) (sym c.placed-2.ensures)
    (subst (λ (p : Position). Stood g.T.Widths.WidthTable.columns c.args.self.now c.args.tables.now (placed_at c.cursor-cursor.result p c.args.self.now)) (sym same)
    (known-within g.T.Widths.WidthTable.columns g.met.T.Widths.WidthTable.narrow c.args.self.now c.args.tables.now stands bare begun sound c.cursor-cursor.result c.cursor-cursor.ensures (omega (arith, c.if-cursor-eq0.false))))
