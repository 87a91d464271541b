use Rattle.session.proofs.Locating.{notice-judged}
use Rattle.session.proofs.session.Session.judge_notice.Goals as goal

pub returns : goal.returns
returns g c = notice-judged g.T.Widths.WidthTable.columns c.args.self.now c.args.tables.now (g.T.Terminal.extent c.args.terminal.now) c.judge_height.result c.judge_height.ensures c.args.text.now c.in_ok-admit.ensures c.in_ok-check_notice.ensures
