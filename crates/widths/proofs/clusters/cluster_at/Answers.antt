use Rattle.std.proofs.Common.{arith, length-drop, drop}
use Rattle.text.proofs.Decodes.{no-lead}
use Rattle.widths.proofs.clusters.cluster_at.Goals as goal

pub returns-in_err-get-clause-front : goal.returns-in_err-get-clause-front
returns-in_err-get-clause-front g c =
    let past = c.in_err-get.ensures.lookup in
    rw c.from_residual.ensures (no-lead (drop c.args.at c.args.bytes.now) (omega (arith, past, length-drop c.args.at c.args.bytes.now)))
