-- Writing all of some bytes to a terminal: call after call, until all are taken or the write breaks. Assumes nothing.
use Rattle.std.specs.Prelude.{◌≡◌, ℕ, ◌+◌, ◌<◌, List, ◌∷◌, ◌++◌, length, take, drop, Ok, Err, codes, decimal, Result}
use Rattle.screen.specs.Screen.{Screen, Geometry}
use Rattle.screen.specs.Bytes.{feed}
use Rattle.terminal.specs.Answers.{WriteAnswer}
use Rattle.terminal.specs.declared.terminal.WriteError.TheVariants.{Interrupted, Down}
use Rattle.terminal.specs.declared.writing.WriteFault.{WriteFault}
use Rattle.terminal.specs.declared.writing.WriteFault.TheVariants as faults
use Rattle.terminal.specs.declared.writing.BrokenWrite.{BrokenWrite}

-- a fault's number
abbrev pub fault_number : WriteFault → ℕ
fault_number faults.Down = 8
fault_number faults.Busy = 9

-- a fault's word
abbrev pub fault_word : WriteFault → List ℕ
fault_word faults.Down = codes "down"
fault_word faults.Busy = codes "busy"

-- the number, a space and the word
abbrev pub fault_text : WriteFault → List ℕ
fault_text f = decimal (fault_number f) ++ 32 ∷ fault_word f

-- the answer that breaks a write, by the fault
abbrev pub Breaks : WriteFault → WriteAnswer → Type 0
Breaks faults.Down (Ok k) = k ≡ 0
Breaks faults.Down (Err Interrupted) = ⊥
Breaks faults.Down (Err Down) = Unit {0}
Breaks faults.Busy (Ok k) = ⊥
Breaks faults.Busy (Err Interrupted) = Unit {0}
Breaks faults.Busy (Err Down) = ⊥

module _ {T : Type 0} (answered : T → List ℕ → WriteAnswer → T → Type 0) (bytes : List ℕ) (start : T) where
  -- n bytes are taken, fewer than all, and i interruptions came since, fewer than eight: offered the rest, the terminal answered so
  pub record Offered (n i : ℕ) (before : T) (a : WriteAnswer) (after : T) : Type 0 where
    pub short : n < length bytes
    pub patient : i < 8
    pub answer : answered before (drop n bytes) a after

  -- how far a write has come: so many bytes are taken, and then came so many interruptions in a row
  pub data Sent : ℕ → ℕ → T → Type 0 where
    begun : Sent 0 0 start
    took : {n i k : ℕ} {t u : T} → Sent n i t → Offered n i t (Ok k) u → 0 < k → Sent (n + k) 0 u
    interrupted : {n i : ℕ} {t u : T} → Sent n i t → Offered n i t (Err Interrupted) u → Sent n (i + 1) u

  -- the last call: the terminal was down or took nothing, or the eighth interruption in a row came
  abbrev pub Last : WriteFault → ℕ → WriteAnswer → T → Type 0
  Last faults.Down n a end = (i : ℕ) × (t : T) × Sent n i t × Offered n i t a end × Breaks faults.Down a
  Last faults.Busy n a end = Sent n 8 end × (a ≡ Err Interrupted)

  -- how a write ends: all is taken, or it broke
  abbrev pub Ends : Result Unit BrokenWrite → T → Type 0
  Ends (Ok u) end = Sent (length bytes) 0 end
  Ends (Err e) end = Last e.fault e.taken e.answer end

-- a broken write: just the bytes taken have worked, fewer than all
pub record Broke (d : Geometry) (bytes : List ℕ) (before : Screen) (e : BrokenWrite) (after : Screen) : Type 0 where
  pub short : e.taken < length bytes
  pub drawn : after ≡ feed d (take e.taken bytes) before
  pub breaks : Breaks e.fault e.answer

-- what a write does to the screen
abbrev pub WroteAll : Geometry → List ℕ → Screen → Result Unit BrokenWrite → Screen → Type 0
WroteAll d bytes before (Ok u) after = after ≡ feed d bytes before
WroteAll d bytes before (Err e) after = Broke d bytes before e after
