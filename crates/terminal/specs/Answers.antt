-- What a terminal answers to a write. Assumes nothing.
use Rattle.std.specs.Prelude.{◌≡◌, ℕ, ◌≤◌, cond, ◌&&◌, List, length, take, Ok, Err, Result, ◌==◌, nat_lt}
use Rattle.screen.specs.Screen.{Screen, Geometry}
use Rattle.screen.specs.Bytes.{feed}
use Rattle.terminal.specs.declared.terminal.WriteError.{WriteError}
use Rattle.terminal.specs.declared.terminal.WriteError.TheVariants.{Interrupted, Down}

-- the first bytes, so many of them, have worked, or nothing has changed
abbrev pub WriteAnswer : Type 0
WriteAnswer = Result ℕ WriteError

-- how many bytes were taken
abbrev pub taken : WriteAnswer → ℕ
taken (Ok k) = k
taken (Err e) = 0

-- an answer's number
abbrev pub answer_number : WriteAnswer → ℕ
answer_number (Ok k) = 0
answer_number (Err Interrupted) = 1
answer_number (Err Down) = 2

-- just the bytes taken have worked
pub record Worked (d : Geometry) (bytes : List ℕ) (before : Screen) (a : WriteAnswer) (after : Screen) : Type 0 where
  pub within : taken a ≤ length bytes
  pub drawn : after ≡ feed d (take (taken a) bytes) before

-- the answer to n bytes of which the first k fit: down exactly when the first does not
abbrev pub answer_for : ℕ → ℕ → WriteAnswer
answer_for n k = cond (nat_lt 0 n && k == 0) (Err Down) (Ok k)
