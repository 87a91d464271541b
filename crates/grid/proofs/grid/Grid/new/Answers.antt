use Rattle.std.proofs.Common.{◌/◌, rules, refl, ap, ◌∙◌}
use Rattle.screen.specs.Screen.{blank_screen}
use Rattle.grid.specs.Meaning.{paper_of}
use Rattle.grid.specs.Steps.{drawn}
use Rattle.grid.proofs.Papers.{paper-blank}
use Rattle.grid.proofs.grid.Grid.new.Goals as goal

pub returns : goal.returns
returns g c =
    let cols = c.args.size.cols in
    let blank = c.fill.ensures.items (λ y same. search rules) in
    record {
      shows = ap (λ l. drawn (paper_of cols l) blank_screen) blank ∙ ap (λ p. drawn p blank_screen) (paper-blank cols _);
      depth = (λ k. c.len.ensures k / (c.from-cols.ensures ∙ c.cols.ensures) k);
      size = refl;
      widths = refl;
    }
