use Rattle.std.proofs.Common.{◌≡◌, ℕ, ◌+◌, ◌-◌, ◌<◌, Bool, true, false, List, length, ◌==◌, Ok, Err, Result, sym, refl, ap, ◌∙◌, subst, arith, lit<, length-drop}
use Rattle.std.proofs.lemmas.Bool.{eqb-false, eqb-true}
use Rattle.std.proofs.lemmas.List.{take_rest}
use Rattle.terminal.specs.declared.writing.WriteFault.TheVariants as faults
use Rattle.terminal.specs.declared.writing.BrokenWrite.{BrokenWrite}
use Rattle.terminal.specs.Windows.{geometry}
use Rattle.terminal.specs.Writing.{begun, Breaks, Last, Ends, WroteAll}
use Rattle.terminal.proofs.Writes.{Going, going-took, going-on, going-busy, going-down, going-done, ends-wrote, ends-fixed}
use Rattle.terminal.proofs.writing.write_all.Given as given
use Rattle.terminal.proofs.writing.write_all.Goals as goal
use Rattle.terminal.proofs.writing.write_all.Goals.{in-Err-Interrupted+else-interruptions-lt-PATIENCE, in-Ok-2, in-Err-Down}

-- the clauses, from how the write ends
pub record Told (g : given.Over) (bytes : List ℕ) (start : g.row.T.Denot) (r : Result Unit BrokenWrite) (end : g.row.T.Denot) : Type 0 where
  ends : Ends g.T.Terminal.answered bytes start r end
  wrote : WroteAll (geometry g.T.Widths.WidthTable.columns (g.T.Terminal.extent start)) bytes (g.T.Terminal.screen start) r (g.T.Terminal.screen end)
  fixed : g.T.Terminal.extent end ≡ g.T.Terminal.extent start

told : (g : given.Over) (bytes : List ℕ) (start : g.row.T.Denot) (r : Result Unit BrokenWrite) (end : g.row.T.Denot) → Ends g.T.Terminal.answered bytes start r end → Told g bytes start r end
told g bytes start r end h =
    record {
      ends = h;
      wrote = ends-wrote g.T.Widths.WidthTable.columns g.T.Terminal.screen g.T.Terminal.extent g.T.Terminal.answered g.met.T.Terminal.works g.met.T.Terminal.fixed bytes start r end h;
      fixed = ends-fixed g.T.Widths.WidthTable.columns g.T.Terminal.screen g.T.Terminal.extent g.T.Terminal.answered g.met.T.Terminal.works g.met.T.Terminal.fixed bytes start r end h;
    }

some-left : (n : ℕ) (b : Bool) → b ≡ (n == 0) → b ≡ false → 0 < n
some-left n b e f = let some = eqb-false n 0 (sym e ∙ f) in omega arith

none-left : (n : ℕ) (b : Bool) → b ≡ (n == 0) → b ≡ true → n ≡ 0
none-left n b e f = eqb-true n 0 (sym e ∙ f)

pub loop-rest-init : goal.loop-rest-init
loop-rest-init g c = record { count = 0; few = omega arith; left = refl; patient = lit< tt; sent = begun }

pub loop-rest-preserved-in-Ok : goal.loop-rest-preserved-in-Ok
loop-rest-preserved-in-Ok g c =
    let said = c.in-Ok.ensures in
    subst (λ l. Going g.T.Terminal.answered c.args.bytes.now c.args.terminal.now l 0 c.write-answer.new.self) (sym (take_rest c.loop-rest.rest.now c.in-Ok.count))
    (going-took c.loop-rest.invariant (some-left _ _ c.is_empty.ensures c.loop-rest-test.true) said (omega arith) (g.met.T.Terminal.works _ _ _ _ said).within)

pub loop-rest-preserved : goal.loop-rest-preserved
loop-rest-preserved g c =
    let said = c.in-Err-Interrupted.is ∙ ap Err (rw c.in-Err-Interrupted.is at c.in-Err-Interrupted.field-0-is) in
    going-on c.loop-rest.invariant (some-left _ _ c.is_empty.ensures c.loop-rest-test.true)
    (subst (λ a. g.T.Terminal.answered c.loop-rest.terminal c.loop-rest.rest.now a c.write-answer.new.self) said c.write-answer.ensures) (omega arith)

pub returns-in-loop-rest : goal.returns-in-loop-rest
returns-in-loop-rest g c =
    let h = c.loop-rest.invariant in
    let bytes = c.args.bytes.now in
    let start = c.args.terminal.now in
    let end = c.write-answer.new.self in
    let a = c.write-answer.result in
    let rest = c.loop-rest.rest.now in
    let room = some-left _ _ c.is_empty.ensures c.loop-rest-test.true in
    let answered = g.T.Terminal.answered in
    let broken : Breaks faults.Down a → faults.Down ≡ c.match-answer.fault → Last answered bytes start c.match-answer.fault (length bytes - length rest) a end
    = λ b e. subst (λ f. Last answered bytes start f (length bytes - length rest) a end) e (going-down h room c.write-answer.ensures b) in
    let last : Last answered bytes start c.match-answer.fault (length bytes - length rest) a end =
    elim c.match-answer.branch [
      | in-Err-Interrupted+else-interruptions-lt-PATIENCE w ↦
          let said = w.in-Err-Interrupted.is ∙ ap Err (rw w.in-Err-Interrupted.is at w.in-Err-Interrupted.field-0-is) in
          let eighth = going-busy h room (subst (λ x. answered c.loop-rest.terminal rest x end) said c.write-answer.ensures) (omega arith) in
          subst (λ f. Last answered bytes start f (length bytes - length rest) a end) (sym w.fault-is) (subst (λ x. Last answered bytes start faults.Busy (length bytes - length rest) x end) (sym said) eighth)
      | in-Ok-2 w ↦ broken (rw w.in-Ok.is (omega arith)) (sym w.fault-is)
      | in-Err-Down w ↦ broken (subst (Breaks faults.Down) (sym (w.in-Err-Down.is ∙ ap Err (rw w.in-Err-Down.is at w.in-Err-Down.field-0-is))) tt) (sym w.fault-is)
    ] in
    let t = told g bytes start (Err (record { fault = c.match-answer.fault; taken = length bytes - length rest; answer = a })) end last in
    record { ends = t.ends; wrote = t.wrote; fixed = t.fixed }

pub returns : goal.returns
returns g c =
    let sent = going-done c.loop-rest.invariant (none-left _ _ c.is_empty.ensures c.loop-rest-test.false) in
    let t = told g c.args.bytes.now c.args.terminal.now (Ok tt) c.loop-rest.terminal sent in
    record { ends = t.ends; wrote = t.wrote; fixed = t.fixed }
