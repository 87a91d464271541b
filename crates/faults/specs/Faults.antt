-- Which call goes wrong, and what becomes of it. Assumes nothing.
use Rattle.std.specs.Prelude.{ℕ, min, cond, List, Some, None, Ok, Err, Option, option_map, ◌==◌}
use Rattle.std.specs.List.{find}
use Rattle.std.specs.declared.ops.ControlFlow.{ControlFlow}
use Rattle.std.specs.declared.ops.ControlFlow.TheVariants.{Continue, Break}
use Rattle.terminal.specs.Answers.{WriteAnswer}
use Rattle.terminal.specs.declared.terminal.WriteError.TheVariants.{Down}
use Rattle.faults.specs.declared.fault.Fault.{Fault}

-- so many bytes are passed on, or the call is answered with nothing passed on
abbrev pub Course : Type 0
Course = ControlFlow WriteAnswer ℕ

-- the fault of a call: the first with its number
abbrev pub answer_at : List Fault → ℕ → Option WriteAnswer
answer_at fs n = option_map (λ f. f.answer) (find (λ f. f.call == n) fs)

-- n bytes are passed on as far as there is room for them: none at all is an answer, and no room is down
abbrev pub passing : ℕ → ℕ → Course
passing n room = cond (n == 0) (Break (Ok 0)) (cond (room == 0) (Break (Err Down)) (Continue (min n room)))

-- what becomes of a call that offers n bytes, with room for so many
abbrev pub course_of : Option WriteAnswer → ℕ → ℕ → Course
course_of None n room = passing n room
course_of (Some (Err e)) n room = Break (Err e)
course_of (Some (Ok k)) n room = passing (min k n) room
