use Rattle.std.proofs.Common.{◌+◌, ◌-◌, ◌*◌, get_or, drop, sym, ◌∙◌, arith}
use Rattle.std.proofs.lemmas.Result.{err_from_is_err_and}
use Rattle.script.proofs.Spellings.{spelled-up, spelled-digit}
use Rattle.script.proofs.number.read_number.Goals as goal

-- the digits so far are already too many, and more of them say no less
pub returns-in_err-value : goal.returns-in_err-value
returns-in_err-value c =
    let w = c.args.word.now in
    let i = c.loop-byte.byte-index in
    let p = err_from_is_err_and c.from_residual.result c.from_residual.ensures.1 in
    rw (p.1, p.2, c.in_err-value.ensures.0) (λ n e.
    let more = spelled-digit w i c.loop-byte.value c.loop-byte.invariant c.loop-byte-test.true (sym c.is_ascii_digit.ensures.value ∙ c.if-not-is_ascii_digit.false) in
    let up = spelled-up (drop (i + 1) w) (c.loop-byte.value * 10 + (get_or w i 0 - 48)) n (sym more ∙ e) in
    omega (arith, c.in_err-value.ensures.1))
