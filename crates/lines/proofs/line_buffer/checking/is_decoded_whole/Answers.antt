use Rattle.std.proofs.Common.{rules}
use Rattle.lines.proofs.Characters.{one-decides}
use Rattle.lines.proofs.line_buffer.checking.is_decoded_whole.Goals as goal

pub returns : goal.returns
returns c = one-decides c.args.bytes.now c.char_at.result c.is_some_and.result c.char_at.ensures.decodes (search rules)
