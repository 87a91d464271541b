use Rattle.text.proofs.Spelling.{good-text-utf8}
use Rattle.lines.proofs.line_buffer.LineBuffer.check_update.Goals as goal

pub check_place-requires : goal.check_place-requires
check_place-requires c = good-text-utf8 c.args.line.now c.in_ok-check_text_within.ensures.0
