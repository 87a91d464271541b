use Rattle.std.proofs.Common.{sym, ap, ◌∙◌}
use Rattle.std.specs.Option.{option_copied}
use Rattle.std.proofs.lemmas.Bool.{cond-true, cond-false, le-leb, lt-leb}
use Rattle.widths.specs.Ordered.{width_by, listed-find}
use Rattle.widths.proofs.ranges.width_in.Goals as goal

pub returns-in-Some : goal.returns-in-Some
returns-in-Some c =
    sym (listed-find _ 0 c.args.code c.requires ∙ ap (width_by c.args.code) (sym c.in-Some.ensures) ∙ cond-true _ _ 1 (le-leb _ _ c.if-range-code.true))

pub returns-in_default : goal.returns-in_default
returns-in_default c =
    sym (listed-find _ 0 c.args.code c.requires ∙ ap (width_by c.args.code) (sym c.in-Some.ensures) ∙ cond-false _ _ 1 (lt-leb _ _ c.if-range-code.false))

pub returns-in_default-2 : goal.returns-in_default-2
returns-in_default-2 c = sym (listed-find _ 0 c.args.code c.requires ∙ ap (width_by c.args.code) (sym c.range_from.ensures ∙ ap option_copied c.in_default.is))
