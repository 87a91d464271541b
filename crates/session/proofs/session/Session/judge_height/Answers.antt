use Rattle.judging.specs.Judgements.{JudgesLine}
use Rattle.lines.specs.Lines.{line_of}
use Rattle.measuring.specs.declared.measuring.Window.{Window}
use Rattle.session.proofs.Locating.{height-known, height-measured}
use Rattle.std.proofs.Common.{subst}
use Rattle.session.proofs.session.Session.judge_height.Goals as goal

pub returns-in-Some : goal.returns-in-Some
returns-in-Some g c = height-known g.T.Widths.WidthTable.columns c.args.self.now c.args.tables.now c.in-Some.placed c.known_line.result c.in-Some.is c.known_line.ensures

pub returns-in-None : goal.returns-in-None
returns-in-None g c =
    height-measured g.T.Widths.WidthTable.columns c.args.self.now c.args.tables.now c.judge_line.result
    (subst (λ (v : Window). JudgesLine g.T.Widths.WidthTable.columns v.prompt v.size (line_of c.args.tables.now.line) c.args.tables.now.line.pos c.judge_line.result) c.window.ensures c.judge_line.ensures)
