-- `two_bytes` meets its contract. Assumes nothing.
use Rattle.text.proofs.Decodes.{lacks-second, answers-two}
use Rattle.std.proofs.Common.{arith}
use Rattle.text.proofs.decode.two_bytes.Goals as goal

pub returns-in_err-second : goal.returns-in_err-second
returns-in_err-second c =
    let a = lacks-second c.args.bytes.now 0 (omega arith) c.in_err-second.ensures in
    rw c.from_residual.ensures a.0

pub returns : goal.returns
returns c =
    let a = answers-two c.args.bytes.now 0 (omega arith) _ c.in_ok-second.ensures c.spelled.result c.spelled.ensures in
    a.0
