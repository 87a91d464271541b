-- `past_style` meets its contract. Assumes nothing.
use Rattle.std.proofs.Common.{◌-◌, length, take, drop, sym, subst, arith}
use Rattle.text.proofs.Runs.{RunEnds, run-ends, final, not-final, opens, style-endless, style-other, style-rest}
use Rattle.text.proofs.styled.past_style.Goals as goal

pub returns-in_err-end : goal.returns-in_err-end
returns-in_err-end c =
    let bs = c.args.bytes.now in
    let qs = take (length bs - 2) (drop 2 bs) in
    rw c.from_residual.ensures (style-endless bs qs (opens bs (omega arith) c.if-bytes-ne-ESC.false c.if-bytes-ne91.false) (subst (RunEnds qs) (sym c.in_err-end.ensures) (run-ends qs)))

pub returns-then-parameters-end-ne109 : goal.returns-then-parameters-end-ne109
returns-then-parameters-end-ne109 c =
    let bs = c.args.bytes.now in
    let qs = take (length bs - 2) (drop 2 bs) in
    let n = c.in_ok-end.end in
    style-other bs qs (opens bs (omega arith) c.if-bytes-ne-ESC.false c.if-bytes-ne91.false) n (subst (RunEnds qs) (sym c.in_ok-end.ensures) (run-ends qs)) (not-final qs n c.if-parameters-end-ne109.true)

pub returns : goal.returns
returns c =
    let bs = c.args.bytes.now in
    let qs = take (length bs - 2) (drop 2 bs) in
    let n = c.in_ok-end.end in
    let r = subst (RunEnds qs) (sym c.in_ok-end.ensures) (run-ends qs) in
    (take n qs, r.0, style-rest bs qs (opens bs (omega arith) c.if-bytes-ne-ESC.false c.if-bytes-ne91.false) n r (final qs n c.if-parameters-end-ne109.false))
