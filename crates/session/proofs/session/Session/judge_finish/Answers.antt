use Rattle.session.proofs.Heights.{finish-judged}
use Rattle.session.proofs.session.Session.judge_finish.Goals as goal

pub returns : goal.returns
returns g c = finish-judged g.T.Widths.WidthTable.columns c.args.self.now c.args.tables.now (g.T.Terminal.extent c.args.terminal.now) c.check_height.result c.check_height.ensures c.in_ok-admit.ensures
