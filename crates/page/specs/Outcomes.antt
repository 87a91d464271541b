-- How a rejection is printed. Assumes nothing.
use Rattle.std.specs.Prelude.{ℕ, List, ◌++◌, codes, decimal}
use Rattle.page.specs.declared.outcome.BrokenAct.{BrokenAct}
use Rattle.page.specs.declared.outcome.Rejection.{Rejection}
use Rattle.page.specs.declared.outcome.Rejection.TheVariants.{Broke, Refused}
use Rattle.terminal.specs.Writing.{fault_text}
use Rattle.text.specs.Refusals.{refusal_text}

-- the fault, the write's number, and how many of its bytes were taken
abbrev pub broken_text : BrokenAct → List ℕ
broken_text b = fault_text b.write.fault ++ (codes " write " ++ (decimal b.number ++ (codes " taken " ++ decimal b.write.taken)))

-- the refusal, or how the act broke
abbrev pub rejection_text : Rejection → List ℕ
rejection_text (Refused r) = refusal_text r
rejection_text (Broke b) = broken_text b
