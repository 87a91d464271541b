-- A line and its edit position: what changes them, and when a change is refused. Assumes nothing.
use Rattle.std.specs.Prelude.{◌≡◌, ℕ, ◌+◌, ◌*◌, ◌≤◌, List, length, Some, None, Ok, Err, Option, Result}
use Rattle.buffer.specs.Contents.{contents}
use Rattle.lines.specs.declared.line_buffer.LineBuffer.{LineBuffer}
use Rattle.page.specs.Rules.{AtBoundary, OneCharacter, Needs, NothingElse}
use Rattle.text.specs.Texts.{GoodText}
use Rattle.text.specs.declared.refusal.Refusal.{Refusal}
use Rattle.text.specs.declared.refusal.Refusal.TheVariants.{Long, Place, Text}

-- the line's bytes
abbrev pub line_of : LineBuffer → List ℕ
line_of b = contents b.line

-- the buffer has this line and this position
abbrev pub Holds : List ℕ → ℕ → LineBuffer → Type 0
Holds line pos b = (line_of b ≡ line) × (b.pos ≡ pos)

-- a change to a line and a position: refused by its rule, with nothing altered, or made
abbrev pub Changes : (Option Refusal → Type 0) → List ℕ → ℕ → LineBuffer → Result Unit Refusal → LineBuffer → Type 0
Changes rule line pos before (Ok _) after = rule None × Holds line pos after
Changes rule line pos before (Err e) after = rule (Some e) × (after ≡ before)

-- a new line and position: a good text, of at most 4,096 bytes, the position not past it nor inside a character
abbrev pub UpdateRule : List ℕ → ℕ → Option Refusal → Type 0
UpdateRule line pos = Needs (GoodText line) Text (Needs (length line ≤ 4096) Long (Needs (AtBoundary line pos) Place NothingElse))

-- a new position in a line
abbrev pub PlaceRule : List ℕ → ℕ → Option Refusal → Type 0
PlaceRule line pos = Needs (AtBoundary line pos) Place NothingElse

-- an insert into a line: one good character, and at most 4,096 bytes with it
abbrev pub InsertRule : List ℕ → List ℕ → ℕ → Option Refusal → Type 0
InsertRule line t n = Needs (OneCharacter t) Text (Needs (length line + n * length t ≤ 4096) Long NothingElse)
