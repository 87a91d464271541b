use Rattle.std.proofs.Common.{cond, [], ◌∷◌, length, rules, sym, ◌∙◌, subst}
use Rattle.std.proofs.lemmas.List.{length-map}
use Rattle.page.specs.Law.{Written}
use Rattle.render.proofs.Writes.{byte-marks, framed-begin, framed-body, framed-end}
use Rattle.render.specs.Numbering.{bytes_of}
use Rattle.screen.specs.Output.{release_bytes}
use Rattle.std.proofs.lemmas.Result.{err_from_is_err_and}
use Rattle.render.proofs.update.write_framed.Goals as goal

pub returns-in_err-update : goal.returns-in_err-update
returns-in_err-update g c =
    let p = err_from_is_err_and c.from_residual.result c.from_residual.ensures.1 in
    rw (p.1, p.2) (framed-begin g.T.Terminal.answered c.args.holds (bytes_of c.args.pieces.now) c.in_err-update.ensures.written)

pub returns-in-Err : goal.returns-in-Err
returns-in-Err g c =
    framed-body g.T.Terminal.answered c.from-before.result c.args.terminal.now c.begin_synchronized_update.new.terminal c.write_pieces.new.terminal (bytes_of c.args.pieces.now) c.args.holds c.in-Err.broken (c.from-before.ensures ∙ byte-marks c.args.holds) c.in_ok-update.ensures.written c.in-Err.ensures

pub returns : goal.returns
returns g c =
    framed-end g.T.Terminal.answered c.from-before.result c.args.terminal.now c.begin_synchronized_update.new.terminal c.write_pieces.new.terminal (bytes_of c.args.pieces.now) c.end_synchronized_update.new.terminal c.args.holds
    c.end_synchronized_update.result c.map_err.result (length c.args.pieces.now) (sym (length-map c.args.pieces.now _)) (c.from-before.ensures ∙ byte-marks c.args.holds) c.in_ok-update.ensures.written c.in_default.ensures
    (subst (λ b. Written g.T.Terminal.answered c.write_pieces.new.terminal (cond b (release_bytes ∷ []) []) c.end_synchronized_update.result c.end_synchronized_update.new.terminal) c.in_ok-update.ensures.begun c.end_synchronized_update.ensures)
    c.map_err.ensures.cases (λ e b p. search rules)
