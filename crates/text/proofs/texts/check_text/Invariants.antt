use Rattle.std.proofs.Common.{length}
use Rattle.text.proofs.Cutting.{GoodTo}
use Rattle.text.proofs.texts.check_text.Given as goal

-- the bytes so far are a good text
abbrev pub invariant-loop-rest : goal.invariant-loop-rest
invariant-loop-rest l = GoodTo l.bytes l.rest

abbrev pub decreases-loop-rest : goal.decreases-loop-rest
decreases-loop-rest l = length l.rest
