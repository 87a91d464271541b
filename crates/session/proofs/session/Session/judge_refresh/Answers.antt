use Rattle.session.proofs.Locating.{refresh-judged}
use Rattle.session.proofs.session.Session.judge_refresh.Goals as goal

pub returns : goal.returns
returns g c = refresh-judged g.T.Widths.WidthTable.columns c.args.self.now c.args.tables.now (g.T.Terminal.extent c.args.terminal.now) c.judge_height.result c.judge_height.ensures c.in_ok-admit.ensures
