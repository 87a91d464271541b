use Rattle.std.proofs.Common.{IsUtf8, sym, subst}
use Rattle.lines.proofs.Buffers.{line-good}
use Rattle.lines.specs.Lines.{line_of}
use Rattle.text.proofs.Spelling.{good-text-utf8}
use Rattle.lines.proofs.line_buffer.LineBuffer.check_pos.Goals as goal

pub check_place-requires : goal.check_place-requires
check_place-requires c = subst IsUtf8 (sym c.line.ensures) (good-text-utf8 (line_of c.args.self.now) (line-good c.args.self.now))
