use Rattle.std.proofs.Common.{ℕ, ◌<◌, ◌≤◌}
use Rattle.std.specs.Str.{IsCharBoundary}
use Rattle.text.proofs.texts.piece_len.Given as goal

-- no character ends at the places that were looked at
abbrev pub invariant-loop-len : goal.invariant-loop-len
invariant-loop-len l = (k : ℕ) → l.len < k → k ≤ l.most → IsCharBoundary l.bytes k → ⊥
