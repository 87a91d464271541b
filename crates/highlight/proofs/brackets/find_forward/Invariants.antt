use Rattle.std.proofs.Common.{◌≡◌, ◌+◌, ◌-◌, length, take, drop}
use Rattle.highlight.specs.Balances.{Searching}
use Rattle.highlight.proofs.brackets.find_forward.Given as goal

abbrev pub invariant-loop-i : goal.invariant-loop-i
invariant-loop-i l =
    record { same : l.unmatched.bracket ≡ l.bracket; counts : Searching l.bracket (take (length l.line - (l.pos + 1)) (drop (l.pos + 1) l.line)) l.i l.unmatched.count }
