use Rattle.std.proofs.Common.{◌*◌, ◌≤◌, rules, refl, ap, ◌∙◌, arith}
use Rattle.std.proofs.lemmas.Nat.{mul-le}
use Rattle.grid.specs.Meaning.{shown}
use Rattle.grid.specs.Steps.{drawn}
use Rattle.grid.proofs.Writes.{rows-written}
use Rattle.grid.proofs.grid.Grid.clear_rows.Goals as goal

pub returns : goal.returns
returns g c =
    let s = c.args.self.now in
    let w = c.from-cols.result in
    let a = c.args.from in
    let b = c.args.to in
    let cols = c.from-cols.ensures ∙ c.cols.ensures in
    let wide : w ≤ s.size.cols = omega (arith, cols) in
    let inside = mul-le b w s.depth s.size.cols c.requires.within wide in
    record {
      shows = ap (λ p. drawn p (shown s)) (rows-written s a b c.fill.new.self c.deref_mut.ensures.value (ap (λ n. a * n) cols) (ap (λ n. b * n) cols) c.requires.some c.requires.forward (omega (arith, inside, s.holds)) (c.fill.ensures.after (λ y same. search rules)));
      depth = refl;
      size = refl;
    }
