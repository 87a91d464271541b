use Rattle.std.proofs.Common.{◌≡◌, ◌≢◌, ℕ, true, ◌+◌, ◌-◌, ◌≤◌, List, [], ◌∷◌, ◌++◌, length, reverse, take, slice_index, Some, sym, ap, ◌∙◌, arith, rules}
use borrow.Author.Tests.{tests}
use Rattle.std.proofs.lemmas.List.{length_push, same_from_push, take_more}
use Rattle.highlight.specs.Brackets.{is_close, partner, partner_index}
use Rattle.highlight.specs.Balances.{Searching, left_behind, closing-apart, left-more, left-none, length_back, get_or-back, back-all}
use Rattle.highlight.proofs.brackets.find_backward.Goals as goal

-- the last byte that is left is the next one before the position
last-left : (line rest front : List ℕ) (b pos : ℕ) → rest ≡ front ++ b ∷ [] → rest ≡ take (length rest) line → length rest ≤ pos → pos ≤ length line → (length rest ≡ length front + 1) × (b ≡ slice_index (reverse (take pos line)) (pos - length rest)) × (front ≡ take (length front) line)
last-left line rest front b pos e left h within =
    let long : length rest ≡ length front + 1 = ap length e ∙ length_push front b in
    let both = same_from_push front (take (length front) line) b (slice_index line (length front)) (sym e ∙ left ∙ ap (λ k. take k line) long ∙ take_more line (length front) 0 (omega arith)) in
    let at : length rest - 1 ≡ length front = omega arith in
    (long, both.1 ∙ sym (ap (λ k. slice_index line k) at) ∙ sym (get_or-back line pos within (length rest) (omega arith) h), both.0)

-- a turn of the loop: the byte is counted, and what is left is one shorter
record Turn (bracket pos count more : ℕ) (line rest front : List ℕ) (b : ℕ) : Type 0 where
  long : length rest ≡ length front + 1
  left : front ≡ take (length front) line
  some : (more ≢ 0) → Searching bracket (reverse (take pos line)) (pos - length front) more
  none : more ≡ 0 → (partner_index bracket (reverse (take pos line)) ≡ Some (pos - length rest)) × (b ≡ partner bracket)

turn : (bracket pos count more : ℕ) (line rest front : List ℕ) (b : ℕ) → is_close bracket ≡ true → rest ≡ front ++ b ∷ [] → rest ≡ take (length rest) line → length rest ≤ pos → pos ≤ length line → Searching bracket (reverse (take pos line)) (pos - length rest) count → more ≡ left_behind bracket count b → Turn bracket pos count more line rest front b
turn bracket pos count more line rest front b closing e left h within s counted =
    let last = last-left line rest front b pos e left h within in
    let back = length_back line pos within in
    record {
      long = last.0;
      left = last.2;
      some = λ n. left-more s (omega arith) (closing-apart bracket closing) last.1 counted n (omega arith);
      none = λ n. left-none s (omega arith) (closing-apart bracket closing) last.1 counted n;
    }

pub returns-then-meets : goal.returns-then-meets
returns-then-meets c =
    let i = c.loop-at.invariant in
    let t = turn c.args.bracket c.args.pos c.loop-at.unmatched.count c.meets.new.self.count c.args.line.now c.loop-at.at-iterator.iter.iter.rest.now c.next.new.self.iter.iter.rest.now c.in-Some.b.now c.requires.closing c.in-Some.ensures.steps.1.0 i.left i.within c.requires.within i.counts (rw i.same at c.meets.ensures.count) in
    let found = t.none (search (rules, tests)) in
    let is = c.in-Some.ensures.steps.1.1 in
    let long = t.long in
    let at : c.in-Some.at ≡ c.args.pos - 1 - (c.args.pos - length c.loop-at.at-iterator.iter.iter.rest.now) = omega arith in
    rw (found.0, found.1, at)

pub loop-at-preserved : goal.loop-at-preserved
loop-at-preserved c =
    let i = c.loop-at.invariant in
    let t = turn c.args.bracket c.args.pos c.loop-at.unmatched.count c.meets.new.self.count c.args.line.now c.loop-at.at-iterator.iter.iter.rest.now c.next.new.self.iter.iter.rest.now c.in-Some.b.now c.requires.closing c.in-Some.ensures.steps.1.0 i.left i.within c.requires.within i.counts (rw i.same at c.meets.ensures.count) in
    let long = t.long in
    record {
      same = c.meets.ensures.bracket ∙ i.same;
      start = c.in-Some.ensures.steps.0 ∙ i.start;
      within = omega arith;
      left = t.left;
      counts = t.some (search (rules, tests));
    }

pub returns : goal.returns
returns c =
    let none = back-all c.args.line.now c.args.pos c.requires.within (length c.loop-at.at-iterator.iter.iter.rest.now) c.loop-at.invariant.counts (omega (arith, c.in-None.ensures.steps.1.0)) in
    rw none
