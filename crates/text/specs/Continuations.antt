-- The steps of a character's decoding: its continuation bytes, and the number that they spell. Assumes nothing.
use Rattle.std.specs.Prelude.{◌≡◌, ℕ, ◌-◌, ◌<◌, ◌≤◌, true, List, length, Some, None, Option, ◌≢◌, slice_index}
use Rattle.std.proofs.Math.Utf8.{scalar}
use Rattle.text.specs.Decoding.{Follows}
use Rattle.text.specs.declared.decode.Decoded.{Decoded}

-- a look for a continuation byte at an index answers its six bits
abbrev pub Continues : List ℕ → ℕ → Option ℕ → Type 0
Continues bs i None = i < length bs → Follows (slice_index bs i) → ⊥
Continues bs i (Some v) = (i < length bs) × Follows (slice_index bs i) × (v ≡ slice_index bs i - 128)

-- the character with a number: none if the number is below the least or no character's
abbrev pub Spelled : ℕ → ℕ → ℕ → Option Decoded → Type 0
Spelled c least n None = least ≤ c → scalar c ≢ true
Spelled c least n (Some d) = (least ≤ c) × (scalar c ≡ true) × (d.code ≡ c) × (d.len ≡ n)
