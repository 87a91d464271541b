use Rattle.judging.specs.Judgements.{JudgesInsert}
use Rattle.lines.specs.Lines.{line_of}
use Rattle.measuring.specs.declared.measuring.Window.{Window}
use Rattle.session.proofs.Locating.{walked-known, walked-measured}
use Rattle.std.proofs.Common.{subst}
use Rattle.session.proofs.session.Session.judge_walked.Goals as goal

pub returns-in-Some : goal.returns-in-Some
returns-in-Some g c =
    walked-known g.T.Widths.WidthTable.columns c.args.self.now c.args.tables.now c.args.text.now c.args.count c.judge_put.result c.in-Some.placed c.known_line.result c.in-Some.is c.known_line.ensures c.judge_put.ensures

pub returns-in-None : goal.returns-in-None
returns-in-None g c =
    walked-measured g.T.Widths.WidthTable.columns c.args.self.now c.args.tables.now c.args.text.now c.args.count c.judge_insert.result
    (subst (λ (v : Window). JudgesInsert g.T.Widths.WidthTable.columns v.prompt v.size (line_of c.args.tables.now.line) c.args.tables.now.line.pos c.args.text.now c.args.count c.judge_insert.result) c.window.ensures c.judge_insert.ensures)
