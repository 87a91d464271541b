use Rattle.std.proofs.Common.{refl}
use Rattle.session.proofs.Finishing.{move-broke}
use Rattle.std.proofs.lemmas.Result.{err_from_is_err_and}
use Rattle.session.proofs.session.Session.leave_block.Goals as goal

pub returns-in_err-move_cursor : goal.returns-in_err-move_cursor
returns-in_err-move_cursor g c =
    let p = err_from_is_err_and c.from_residual.result c.from_residual.ensures.1 in
    rw (p.1, p.2) (move-broke g.T.Terminal.answered c.args.self.now.layout c.cursor-cursor.result c.end-end.result c.args.tables.now _ c.args.terminal.now c.move_cursor.new.terminal _
    c.cursor-cursor.ensures c.end-end.ensures c.else-cursor-end.either c.in_err-move_cursor.ensures.written (record { prompt = refl; line = refl; note = refl; hint = refl }) c.in_err-move_cursor.ensures.bytes)
