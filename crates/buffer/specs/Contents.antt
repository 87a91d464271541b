-- What stands in a buffer, and what changes it. Assumes nothing.
use Rattle.std.specs.Prelude.{◌≡◌, ℕ, ◌<◌, ◌≤◌, List, ◌++◌, length, take, drop, Some, None, Option, Ok, Err, Result}
use Rattle.buffer.specs.declared.buffer.Buffer.{Buffer}
use Rattle.buffer.specs.declared.buffer.Full.{Full}

-- the bytes
abbrev pub contents : {N : ℕ} → Buffer N → List ℕ
contents b = take b.len b.memory

-- other bytes: taken if there is room for them, and else nothing altered
abbrev pub Becomes : {N : ℕ} → List ℕ → Buffer N → Result Unit Full → Buffer N → Type 0
Becomes {N} bytes before (Ok _) after = (length bytes ≤ N) × (contents after ≡ bytes)
Becomes {N} bytes before (Err _) after = (N < length bytes) × (after ≡ before)

-- a buffer of these bytes, if there is room for them
abbrev pub Fills : {N : ℕ} → List ℕ → Result (Buffer N) Full → Type 0
Fills {N} bytes (Ok b) = (length bytes ≤ N) × (contents b ≡ bytes)
Fills {N} bytes (Err _) = N < length bytes

-- the room behind the bytes
abbrev pub spare : {N : ℕ} → Buffer N → List ℕ
spare b = drop b.len b.memory

-- so many bytes of the room come behind the others, or none
abbrev pub Writes : List ℕ → List ℕ → Option ℕ → List ℕ → Type 0
Writes room before (Some n) after = after ≡ before ++ take n room
Writes room before None after = after ≡ before
