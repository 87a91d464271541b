use Rattle.std.proofs.Common.{◌+◌, Ok, sym, subst}
use Rattle.layout.specs.Laying.{Ended}
use Rattle.layout.specs.declared.layout.Position.{Position}
use Rattle.session.proofs.Typing.{held-some, in-row, typed-judged}
use Rattle.session.specs.Locating.{JudgesWalked}
use Rattle.session.proofs.session.Session.judge_typed.Goals as goal

pub returns : goal.returns
returns g c columns stands =
    let row = in-row c.args.self.now c.args.tables.now c.args.count c.args.width c.requires in
    let ended = (rw c.unwrap.ensures at c.ending_at.ensures).1 in
    subst (λ (p : Position). JudgesWalked g.T.Widths.WidthTable.columns c.args.self.now c.args.tables.now c.args.text.now c.args.count (Ok (record { ends = record { cursor = record { col = p.col + c.args.width; row = p.row }; end = record { col = p.col + c.args.width; row = p.row } }; layout = c.unwrap.result }))) (sym c.cursor-start.ensures)
    (typed-judged g.T.Widths.WidthTable.columns g.met.T.Widths.WidthTable.narrow g.met.T.Widths.WidthTable.controls c.args.self.now c.args.tables.now c.args.text.now c.args.count c.args.width row c.in_ok-check_insert.ensures columns c.unwrap.result
    (subst (λ (p : Position). Ended c.args.self.now.layout (record { col = p.col + c.args.width; row = p.row }) c.unwrap.result) c.cursor-start.ensures ended) stands)

pub unwrap-requires : goal.unwrap-requires
unwrap-requires g c =
    let row = in-row c.args.self.now c.args.tables.now c.args.count c.args.width c.requires in
    held-some c.args.self.now c.args.tables.now c.args.count c.args.width row c.cursor-start.result c.cursor-start.ensures c.ending_at.result c.ending_at.ensures
