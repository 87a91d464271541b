-- `four_bytes` meets its contract. Assumes nothing.
use Rattle.text.proofs.Decodes.{lacks-second, lacks-third, lacks-fourth, answers-four}
use Rattle.std.proofs.Common.{arith}
use Rattle.text.proofs.decode.four_bytes.Goals as goal

pub returns-in_err-second : goal.returns-in_err-second
returns-in_err-second c =
    let a = lacks-second c.args.bytes.now 0 (omega arith) c.in_err-second.ensures in
    rw c.from_residual.ensures a.0

pub returns-in_err-third : goal.returns-in_err-third
returns-in_err-third c =
    let a = lacks-third c.args.bytes.now 0 (omega arith) c.in_err-third.ensures in
    rw c.from_residual-in_err-third.ensures a.0

pub returns-in_err-fourth : goal.returns-in_err-fourth
returns-in_err-fourth c =
    let a = lacks-fourth c.args.bytes.now 0 (omega arith) c.in_err-fourth.ensures in
    rw c.from_residual-in_err-fourth.ensures a.0

pub returns : goal.returns
returns c =
    let a = answers-four c.args.bytes.now 0 (omega arith) _ _ _ c.in_ok-second.ensures c.in_ok-third.ensures c.in_ok-fourth.ensures c.spelled.result c.spelled.ensures in
    a.0
