-- `first_char` meets its contract. Assumes nothing.
use Rattle.std.proofs.Common.{arith}
use Rattle.text.proofs.Decodes.{no-lead, plain-front, answers-alone}
use Rattle.text.proofs.decode.first_char.Goals as goal

pub returns-in_err-lead : goal.returns-in_err-lead
returns-in_err-lead c =
    let h = c.in_err-lead.ensures.item in
    rw c.from_residual.ensures (no-lead c.args.bytes.now (omega (arith, h)))

pub returns-then-lead-lt128 : goal.returns-then-lead-lt128
returns-then-lead-lt128 c =
    let lead = c.in_ok-lead.ensures.item in
    let same = lead.4 (omega arith) 0 in
    plain-front c.args.bytes.now c.from.result (omega (arith, lead)) (omega (arith, c.from.ensures, same)) (omega arith)

pub returns-then-lead-lt192 : goal.returns-then-lead-lt192
returns-then-lead-lt192 c =
    let lead = c.in_ok-lead.ensures.item in
    let same = lead.4 (omega arith) 0 in
    (answers-alone c.args.bytes.now 0 (omega (arith, same)) (omega (arith, same))).0
