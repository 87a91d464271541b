use Rattle.session.proofs.Checking.{accepted, prompt-refused, size-refused, tall-refused}
use Rattle.std.proofs.lemmas.Result.{err_from_is_err_and}
use Rattle.session.proofs.setup.Setup.check.Goals as goal

pub returns-in_err-size : goal.returns-in_err-size
returns-in_err-size g c =
    let p = err_from_is_err_and c.from_residual.result c.from_residual.ensures.1 in
    rw (p.1, p.2) (size-refused g.W.WidthTable.columns c.args.cols c.args.rows c.args.raw.now c.args.styled.now c.args.colours c.args.holds c.in_err-size.field-0.0 c.in_err-size.ensures.0 c.in_err-size.ensures.1)

pub returns-in_err-prompt : goal.returns-in_err-prompt
returns-in_err-prompt g c =
    let p = err_from_is_err_and c.from_residual-in_err-prompt.result c.from_residual-in_err-prompt.ensures.1 in
    rw (p.1, p.2) (prompt-refused g.W.WidthTable.columns c.args.cols c.args.rows c.args.raw.now c.args.styled.now c.args.colours c.args.holds c.in_ok-size.size c.in_ok-size.ensures.0 c.in_ok-size.ensures.1 c.in_err-prompt.field-0.0 c.in_err-prompt.ensures.0 c.in_err-prompt.ensures.1)

pub returns-then-not-fits : goal.returns-then-not-fits
returns-then-not-fits g c = tall-refused g.W.WidthTable.columns c.args.cols c.args.rows c.args.raw.now c.args.styled.now c.args.colours c.args.holds c.in_ok-size.size c.in_ok-size.ensures.0 c.in_ok-size.ensures.1 c.in_ok-prompt.prompt c.in_ok-prompt.ensures c.fits.result c.fits.ensures c.if-not-fits.true

pub returns : goal.returns
returns g c = accepted g.W.WidthTable.columns c.args.cols c.args.rows c.args.raw.now c.args.styled.now c.args.colours c.args.holds c.in_ok-size.size c.in_ok-size.ensures.0 c.in_ok-size.ensures.1 c.in_ok-prompt.prompt c.in_ok-prompt.ensures c.fits.result c.fits.ensures c.if-not-fits.false
