use Rattle.std.proofs.Common.{◌≡◌, ◌-◌, ◌≤◌, length, reverse, take}
use Rattle.highlight.specs.Balances.{Searching}
use Rattle.highlight.proofs.brackets.find_backward.Given as goal

-- the bytes that are left are the first ones of the line
abbrev pub invariant-loop-at : goal.invariant-loop-at
invariant-loop-at l =
    record {
      same : l.unmatched.bracket ≡ l.bracket;
      start : l.at-iterator.iter.count ≡ 0;
      within : length l.at-iterator.iter.iter.rest.now ≤ l.pos;
      left : l.at-iterator.iter.iter.rest.now ≡ take (length l.at-iterator.iter.iter.rest.now) l.line;
      counts : Searching l.bracket (reverse (take l.pos l.line)) (l.pos - length l.at-iterator.iter.iter.rest.now) l.unmatched.count;
    }
