use Rattle.std.proofs.Common.{◌<◌, length, arith}
use Rattle.std.proofs.lemmas.Result.{err_from_is_err_and}
use Rattle.render.proofs.Writes.{bytes-at, bytes-within, pieces-broke, pieces-more}
use Rattle.render.specs.Numbering.{bytes_of}
use Rattle.render.proofs.writing.write_pieces.Goals as goal

pub returns-in_err-write_next : goal.returns-in_err-write_next
returns-in_err-write_next g c =
    let p = err_from_is_err_and c.from_residual.result c.from_residual.ensures.1 in
    let within : c.loop-number.number < length c.args.pieces.now = omega arith in
    rw (p.1, p.2) (pieces-broke g.T.Terminal.answered c.args.before c.loop-number.number c.args.terminal.now c.loop-number.terminal c.write_next.new.terminal (bytes_of c.args.pieces.now) c.loop-number.invariant
    (bytes-within c.args.pieces.now _ within) _ c.in_err-write_next.ensures (bytes-at c.args.pieces.now _ _ within))

pub loop-number-preserved : goal.loop-number-preserved
loop-number-preserved g c =
    let within : c.loop-number.number < length c.args.pieces.now = omega arith in
    pieces-more g.T.Terminal.answered c.args.before c.loop-number.number c.args.terminal.now c.loop-number.terminal c.write_next.new.terminal (bytes_of c.args.pieces.now) c.loop-number.invariant
    (bytes-within c.args.pieces.now _ within) c.in_ok-write_next.ensures (bytes-at c.args.pieces.now _ _ within)
