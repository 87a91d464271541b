use Rattle.std.proofs.Common.{◌+◌, ◌*◌, length, ap}
use Rattle.buffer.proofs.Buffers.{is_taken}
use Rattle.lines.proofs.Buffers.{inserted, inserted-short}
use Rattle.lines.proofs.Rules.{insert-fine}
use Rattle.lines.specs.Lines.{line_of}
use Rattle.lines.proofs.line_buffer.LineBuffer.insert.Goals as goal

pub unwrap-requires : goal.unwrap-requires
unwrap-requires c =
    let b = c.args.self.now in
    let t = c.args.text.now in
    let rule = insert-fine (line_of b) t c.args.count c.in_ok-check_insert.ensures in
    is_taken {N = 4096} _ _ _ _ c.insert_repeated.ensures (inserted-short b t c.args.count rule.1)

pub invariant_of-self : goal.invariant_of-self
invariant_of-self c =
    let b = c.args.self.now in
    let t = c.args.text.now in
    let rule = insert-fine (line_of b) t c.args.count c.in_ok-check_insert.ensures in
    let put = rw c.unwrap.ensures at c.insert_repeated.ensures in
    inserted b t c.args.count c.insert_repeated.new.self _ rule.0 put.1 (ap (λ n. b.pos + n * length t) c.from.ensures)
