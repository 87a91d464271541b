use Rattle.session.proofs.Clearing.{few-number, release-broke, release-wiped}
use Rattle.std.proofs.lemmas.Result.{err_from_is_err_and}
use Rattle.std.proofs.Common.{[], ◌∷◌, arith}
use Rattle.screen.specs.Output.{clear_bytes}
use Rattle.session.proofs.session.clearing.wipe.Goals as goal

pub returns-in_err-write_and_flush : goal.returns-in_err-write_and_flush
returns-in_err-write_and_flush g c =
    let p = err_from_is_err_and c.from_residual.result c.from_residual.ensures.1 in
    rw (p.1, p.2) (release-broke g.T.Terminal.answered c.args.terminal.now c.write_and_flush.new.terminal c.args.release c.in_err-write_and_flush.field-0.0 c.if-release.true c.in_err-write_and_flush.ensures)

pub renumber-requires : goal.renumber-requires
renumber-requires g c = few-number g.T.Terminal.answered c.write_and_flush.new.terminal c.clear_screen.new.terminal (clear_bytes ∷ []) c.clear_screen.result 1 (omega arith) (omega arith) c.clear_screen.ensures

pub returns-then-release : goal.returns-then-release
returns-then-release g c =
    release-wiped g.T.Terminal.answered c.args.terminal.now c.write_and_flush.new.terminal c.clear_screen.new.terminal c.args.release c.clear_screen.result c.renumber.result c.if-release.true c.renumber.ensures c.in_ok-write_and_flush.ensures c.clear_screen.ensures
