use Rattle.session.proofs.Prompting.{prompt-behind, prompt-some}
use Rattle.session.proofs.setup.prompt_end.Goals as goal

pub unwrap-requires : goal.unwrap-requires
unwrap-requires g c = prompt-some g.W.WidthTable.columns c.args.prompt.now c.args.size c.visible.result.now c.cols.result c.visible.ensures c.cols.ensures c.walk_text.result c.walk_text.ensures

pub returns : goal.returns
returns g c = prompt-behind g.W.WidthTable.columns c.args.prompt.now c.args.size c.visible.result.now c.cols.result c.visible.ensures c.cols.ensures c.walk_text.result c.walk_text.ensures c.unwrap.result c.unwrap.ensures
