use Rattle.session.proofs.Clearing.{cleared-written, framed-number, wipe-broke}
use Rattle.std.proofs.lemmas.Result.{err_from_is_err_and}
use Rattle.session.proofs.session.clearing.write_cleared.Goals as goal

pub returns-in_err-wipe : goal.returns-in_err-wipe
returns-in_err-wipe g c =
    let p = err_from_is_err_and c.from_residual.result c.from_residual.ensures.1 in
    rw (p.1, p.2) (wipe-broke g.T.Terminal.answered c.args.terminal.now c.wipe.new.terminal c.args.release c.args.holds c.args.bytes.now c.in_err-wipe.field-0.0 c.in_err-wipe.ensures)

pub renumber-requires : goal.renumber-requires
renumber-requires g c = framed-number g.T.Terminal.answered c.wipe.new.terminal c.write_synchronized.new.terminal c.args.holds c.args.release c.args.bytes.now c.write_synchronized.result c.from-before.result c.from-before.ensures c.write_synchronized.ensures

pub returns : goal.returns
returns g c =
    cleared-written g.T.Terminal.answered c.args.terminal.now c.wipe.new.terminal c.write_synchronized.new.terminal c.args.release c.args.holds c.args.bytes.now c.from-before.result c.write_synchronized.result c.renumber.result c.from-before.ensures c.renumber.ensures c.in_ok-wipe.ensures c.write_synchronized.ensures
