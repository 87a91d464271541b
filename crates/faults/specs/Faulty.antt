-- How a terminal with faults answers. Assumes nothing.
use Rattle.std.specs.Prelude.{◌≡◌, ℕ, ◌+◌, ◌-◌, ◌^◌, ◌≤◌, min, ◌⊎◌, List, [], ◌++◌, length, take, vec_items, vec_len, vec_capacity, Vec}
use Rattle.std.specs.declared.alloc.Global.{Global}
use Rattle.terminal.specs.Answers.{WriteAnswer, taken}
use Rattle.faults.specs.declared.fault.Fault.{Fault}
use Rattle.std.specs.declared.ops.ControlFlow.TheVariants.{Continue, Break}
use Rattle.faults.specs.declared.faulty.Faulty.{Faulty}
use Rattle.faults.specs.Faults.{Course, answer_at, course_of}

-- no call has come yet
pub record Begun {T : Type 0} (lowest : T) (planned : Vec Fault Global) (kept : Vec ℕ Global) (f : Faulty T) : Type 0 where
  pub below : f.below ≡ lowest
  pub faults : f.faults ≡ planned
  pub log : f.log ≡ kept
  pub calls : f.calls ≡ 0

-- nothing is kept, and all else is as it was
pub record Emptied {T : Type 0} (before after : Faulty T) : Type 0 where
  pub below : after.below ≡ before.below
  pub faults : after.faults ≡ before.faults
  pub log : vec_items after.log ≡ []
  pub calls : after.calls ≡ before.calls

-- there is room for all n bytes or for none, and nothing else changed
pub record Roomy (before : Vec ℕ Global) (n room : ℕ) (after : Vec ℕ Global) : Type 0 where
  pub items : vec_items after ≡ vec_items before
  pub len : vec_len after ≡ vec_len before
  pub fits : vec_len after + room ≤ vec_capacity after
  pub whole : (room ≡ n) ⊎ (room ≡ 0)

-- the first bytes were offered to the terminal below, which answered so; or nothing was
abbrev pub Follows : {T : Type 0} → (T → List ℕ → WriteAnswer → T → Type 0) → Course → T → List ℕ → WriteAnswer → T → Type 0
Follows answered (Continue n) s bytes a t = answered s (take n bytes) a t
Follows answered (Break x) s bytes a t = (a ≡ x) × (t ≡ s)

-- what becomes of the next call, with room for so many bytes
abbrev pub next_course : {T : Type 0} → Faulty T → List ℕ → ℕ → Course
next_course f bytes room = course_of (answer_at (vec_items f.faults) f.calls) (length bytes) room

-- the call was counted, went as its fault says, with memory for all bytes or for none, and just the bytes taken were kept
pub record Answered {T : Type 0} (answered : T → List ℕ → WriteAnswer → T → Type 0) (before : Faulty T) (bytes : List ℕ) (a : WriteAnswer) (after : Faulty T) : Type 0 where
  pub room : ℕ
  pub memory : (room ≡ length bytes) ⊎ (room ≡ 0)
  pub below : Follows answered (next_course before bytes room) before.below bytes a after.below
  pub log : vec_items after.log ≡ vec_items before.log ++ take (taken a) bytes
  pub faults : after.faults ≡ before.faults
  pub calls : after.calls ≡ min (before.calls + 1) (2 ^ 64 - 1)
