use Rattle.std.proofs.Common.{arith}
use Rattle.lines.proofs.Characters.{one-plain}
use Rattle.lines.proofs.line_buffer.checking.is_one_character.Goals as goal

pub returns-in-len1 : goal.returns-in-len1
returns-in-len1 c = one-plain c.args.bytes.now c.from.result c.is_good.result (omega (arith, c.in-len1.len_at_least, c.in-len1.len_below)) c.from.ensures (omega (arith, c.from.ensures, c.if-byte-lt128.true)) c.is_good.ensures
