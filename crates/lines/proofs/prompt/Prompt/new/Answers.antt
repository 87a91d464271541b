use Rattle.std.proofs.Common.{refl, sym, ◌∙◌}
use Rattle.buffer.specs.Contents.{contents}
use Rattle.lines.proofs.Forms.{Agreed, agreed, ne-false, ne-true, shown-apart, shown-as}
use Rattle.text.proofs.Testing.{good-bytes}
use Rattle.lines.proofs.prompt.Prompt.new.Goals as goal
use Rattle.lines.proofs.prompt.Prompt.new.Goals.{After-unwrap-2}

pub returns-then-ne : goal.returns-then-ne
returns-then-ne c =
    let differ = ne-true c.as_slice.result.now c.as_slice-2.result.now c.ne.result c.ne.ensures c.if-ne.true in
    (refl, shown-apart c.args.raw.now c.args.styled.now _ _ c.in_ok-visible.ensures c.in_ok-other.ensures (λ e. differ (c.as_slice.ensures ∙ e ∙ sym c.as_slice-2.ensures)))

-- the forms show the same text
both : (c : After-unwrap-2) → Agreed c.args.raw.now c.args.styled.now (contents c.in_ok-visible.visible)
both c =
    let same = ne-false c.as_slice.result.now c.as_slice-2.result.now c.ne.result c.ne.ensures c.if-ne.false in
    agreed c.args.raw.now c.args.styled.now _ _ c.in_ok-visible.ensures c.in_ok-other.ensures (sym c.as_slice.ensures ∙ same ∙ c.as_slice-2.ensures)

pub invariant_of-result : goal.invariant_of-result
invariant_of-result c =
    let text = contents c.in_ok-visible.visible in
    let shown = both c in
    let raw = rw c.unwrap.ensures at c.try_from.ensures in
    let styled = rw c.unwrap-2.ensures at c.try_from-2.ensures in record {
      plainly = shown-as _ c.args.raw.now text shown.characters raw.1 shown.raw-shows shown.spells;
      coloured = shown-as _ c.args.styled.now text shown.characters styled.1 shown.styled-shows shown.spells;
      good = good-bytes text (shown.characters, shown.spells);
    }

pub returns : goal.returns
returns c =
    let shown = both (goal.at.returns c).After-unwrap-2 in
    let raw = rw c.unwrap.ensures at c.try_from.ensures in
    let styled = rw c.unwrap-2.ensures at c.try_from-2.ensures in record {
      raw-form = raw.1;
      styled-form = styled.1;
      characters = shown.characters;
      raw-shows = shown.raw-shows;
      styled-shows = shown.styled-shows;
      visible = shown.spells;
    }
