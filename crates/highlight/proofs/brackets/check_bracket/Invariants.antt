use Rattle.std.proofs.Common.{◌≡◌, suc, ◌<◌, false, ◌⊎◌, length, get_or}
use Rattle.highlight.specs.Brackets.{is_open, is_close}
use Rattle.highlight.proofs.brackets.check_bracket.Given as goal

-- the byte under the position is looked at, or it is no bracket and the one before it is
abbrev pub invariant-loop-at : goal.invariant-loop-at
invariant-loop-at l =
    (l.pos < length l.line) × ((l.at ≡ l.pos) ⊎ ((suc l.at ≡ l.pos) × (is_open (get_or l.line l.pos 0) ≡ false) × (is_close (get_or l.line l.pos 0) ≡ false)))

abbrev pub decreases-loop-at : goal.decreases-loop-at
decreases-loop-at l = l.at
