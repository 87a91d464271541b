-- `is_boundary` meets its contract. Assumes nothing.
use Rattle.std.proofs.Common.{subst, Decides}
use Rattle.text.specs.Decoding.{Follows}
use Rattle.text.proofs.Places.{place-within}
use Rattle.text.proofs.texts.is_boundary.Goals as goal

pub returns-in-Some : goal.returns-in-Some
returns-in-Some c =
    let h = c.in-Some.ensures.lookup in
    place-within c.args.bytes.now c.args.at h.3.0 c.is_continuation.result (subst (λ b. Decides c.is_continuation.result (Follows b)) (h.3.1 0) c.is_continuation.ensures)
