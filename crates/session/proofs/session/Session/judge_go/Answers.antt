use Rattle.session.proofs.Heights.{go-judged}
use Rattle.session.proofs.session.Session.judge_go.Goals as goal

pub returns : goal.returns
returns g c = go-judged g.T.Widths.WidthTable.columns c.args.self.now c.args.tables.now (g.T.Terminal.extent c.args.terminal.now) c.check_height.result c.check_height.ensures c.in_ok-admit.ensures c.args.pos c.in_ok-check_pos.ensures
