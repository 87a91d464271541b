-- A script of captions, one a line, and the hint that it has for a line. Assumes nothing.
use Rattle.std.specs.Prelude.{◌≡◌, ℕ, ◌<◌, Bool, cond, ◌&&◌, List, length, take, drop, find, Some, None, Option, ◌==◌, nat_le, nat_lt}
use Rattle.std.specs.List.{slice_split}
use Rattle.std.specs.Str.{bytes_eq}
use Rattle.text.specs.Tests.{good_bytes}
use Rattle.text.specs.Texts.{GoodText}

-- the captions of a script: its pieces between LFs
abbrev pub captions_of : List ℕ → List (List ℕ)
captions_of script = slice_split (λ b. b == 10) script

-- a caption goes on from a line: it is a good text, begins with the line, and has a rest, which is a good text too, so that the line ends where a character does
pub record Continues (line caption : List ℕ) : Type 0 where
  pub good : GoodText caption
  pub begins : take (length line) caption ≡ line
  pub longer : length line < length caption
  pub rest : GoodText (drop (length line) caption)

-- whether it does
abbrev pub goes_on : List ℕ → List ℕ → Bool
goes_on line caption =
    (good_bytes caption && bytes_eq (take (length line) caption) line) && (nat_lt (length line) (length caption) && good_bytes (drop (length line) caption))

-- the first of some captions that goes on from a line
abbrev pub first_continuing : List ℕ → List (List ℕ) → Option (List ℕ)
first_continuing line captions = find (goes_on line) captions

-- the rest of a caption behind a line, unless it is longer than 1,024 bytes
abbrev pub rest_behind : List ℕ → Option (List ℕ) → Option (List ℕ)
rest_behind line None = None
rest_behind line (Some c) = cond (nat_le (length (drop (length line) c)) 1024) (Some (drop (length line) c)) None

-- the hint of a script for a line that is not empty, with the position at its end
abbrev pub script_hint : List ℕ → List ℕ → ℕ → Option (List ℕ)
script_hint script line pos = cond (nat_lt 0 (length line) && pos == length line) (rest_behind line (first_continuing line (captions_of script))) None
