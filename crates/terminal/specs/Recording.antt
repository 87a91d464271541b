-- What a record of bytes means. Assumes nothing.
use Rattle.std.specs.Prelude.{◌≡◌, ℕ, ◌+◌, ◌-◌, min, List, ◌++◌, length, take, drop, vec_items, vec_len, Vec}
use Rattle.std.specs.declared.alloc.Global.{Global}
use Rattle.screen.specs.Screen.{Screen, blank_screen}
use Rattle.screen.specs.Bytes.{feed}
use Rattle.terminal.specs.Windows.{geometry}
use Rattle.terminal.specs.Answers.{WriteAnswer, taken, answer_for}
use Rattle.terminal.specs.declared.size.Size.{Size}
use Rattle.terminal.specs.declared.record.Record.{Record}

-- the bytes kept
abbrev pub contents : {W : Type 0} → Record W → List ℕ
contents r = take r.len (vec_items r.memory)

-- how many bytes more it can keep
abbrev pub room : {W : Type 0} → Record W → ℕ
room r = vec_len r.memory - r.len

-- the screen that the bytes kept draw on a blank one
abbrev pub replayed : {W : Type 0} → (ℕ → ℕ) → Record W → Screen
replayed w r = feed (geometry w r.size) (contents r) blank_screen

-- nothing is kept yet, and the memory is as it was given
pub record Fresh {W : Type 0} (given : Vec ℕ Global) (asked : Size) (r : Record W) : Type 0 where
  pub none : r.len ≡ 0
  pub memory : r.memory ≡ given
  pub size : r.size ≡ asked

-- it took the bytes that its memory holds, down exactly when that is not one; the bytes taken stand behind those kept, and nothing else changed
pub record Kept {W : Type 0} (before : Record W) (bytes : List ℕ) (a : WriteAnswer) (after : Record W) : Type 0 where
  pub answer : a ≡ answer_for (length bytes) (min (length bytes) (room before))
  pub kept : contents after ≡ contents before ++ take (taken a) bytes
  pub len : after.len ≡ before.len + taken a
  pub rest : drop after.len (vec_items after.memory) ≡ drop after.len (vec_items before.memory)
  pub memory : vec_len after.memory ≡ vec_len before.memory
  pub size : after.size ≡ before.size
