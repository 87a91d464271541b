-- A text that may be stored. Assumes nothing.
use Rattle.std.specs.Prelude.{ℕ, Bool, true, ◌&&◌, nat_le, List, take, Some, None, Option}
use Rattle.text.specs.Tests.{good_bytes}

-- no text, or so many bytes at the front of a memory, at most 1,024, which are a good text
abbrev pub stores_good : List ℕ → Option ℕ → Bool
stores_good memory None = true
stores_good memory (Some n) = nat_le n 1024 && good_bytes (take n memory)
