-- `piece_len` meets its contract. Assumes nothing.
use Rattle.std.proofs.Common.{subst, ⊎_elim, arith}
use Rattle.std.proofs.lemmas.Bool.{both_ways, cases_lt}
use Rattle.std.specs.Str.{IsCharBoundary}
use Rattle.text.proofs.Cutting.{piece-there}
use Rattle.text.proofs.texts.piece_len.Goals as goal

pub loop-len-init : goal.loop-len-init
loop-len-init c k l m b = omega arith

pub loop-len-preserved : goal.loop-len-preserved
loop-len-preserved c k l m b =
    ⊎_elim (λ h. c.loop-len.invariant k h m b) (λ h. both_ways _ c.if-is_boundary.false (c.is_boundary.ensures.place.1 (subst (IsCharBoundary c.args.bytes.now) (omega arith) b))) (cases_lt c.loop-len.len k)

pub returns : goal.returns
returns c = (omega arith, (λ h. absurd (omega arith)), (λ e some g. piece-there c.args.bytes.now c.min-most.result c.min-most.ensures (λ k l m. c.loop-len.invariant k (omega arith) m) some g))
