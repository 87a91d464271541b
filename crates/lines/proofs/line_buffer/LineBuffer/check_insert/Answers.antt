use Rattle.std.proofs.Common.{◌*◌, ◌≤◌, length, arith}
use Rattle.lines.proofs.Characters.{few_bytes}
use Rattle.lines.proofs.line_buffer.LineBuffer.check_insert.Goals as goal

pub overflow_mul-added : goal.overflow_mul-added
overflow_mul-added c =
    let t = c.args.text.now in
    let one = c.is_one_character.ensures.0 c.if-not-is_one_character.false in
    let few : c.from.result * length t ≤ 262140 = few_bytes t c.from.result one (omega (arith, c.from.ensures, c.ranges.count.fits)) in
    omega arith
