use Rattle.lines.specs.Prompts.{visible_of}
use Rattle.session.proofs.Checking.{fits-decided}
use Rattle.std.specs.Str.{chars}
use Rattle.session.proofs.setup.fits.Goals as goal

pub returns : goal.returns
returns g c = fits-decided g.W.WidthTable.columns c.args.size (chars (visible_of c.args.prompt.now)) c.prompt_end-end.result c.line_layout.result c.is_some.result c.prompt_end-end.ensures c.line_layout.ensures c.is_some.ensures
