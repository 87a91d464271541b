use Rattle.std.proofs.Common.{ℕ, List, None, refl, sym, ap, ◌∙◌, arith, rules}
use Rattle.script.specs.Scripts.{said_by, with_line}
use Rattle.script.proofs.Progress.{far-few, far-first, far-next}
use Rattle.script.proofs.reading.read_script.Goals as goal
use Rattle.text.specs.Lines.{lines_left}

pub loop-text-init : goal.loop-text-init
loop-text-init c = record {
  far = far-first c.args.bytes.now (lines_left c.new-lines.result) (record { settings = c.in_ok-new.field-0; acts = c.new-2.result; error = None }) c.new-lines.ensures c.in_ok-new.ensures.ok c.new-2.ensures.items;
  none = refl;
}

pub overflow_add-line : goal.overflow_add-line
overflow_add-line c =
    let few = far-few c.args.bytes.now (lines_left c.loop-text.lines) (lines_left c.next.new.self) c.in-Some.text.now c.loop-text.line (said_by c.loop-text.script) c.loop-text.invariant.far c.in-Some.ensures.steps in
    grind (arith, few)

pub loop-text-preserved : goal.loop-text-preserved
loop-text-preserved c = record {
  far = far-next c.args.bytes.now (lines_left c.loop-text.lines) (lines_left c.next.new.self) c.in-Some.text.now c.loop-text.line (said_by c.loop-text.script) (said_by c.read_line.new.self) c.loop-text.invariant.far c.in-Some.ensures.steps
      (ap (λ (t : List ℕ). with_line c.loop-text.line t (said_by c.loop-text.script)) (sym c.new-in-Some.ensures) ∙ c.in_default-read_line.ensures.adds);
  none = search rules;
}
