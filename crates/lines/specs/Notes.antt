-- A note, and what changes it. Assumes nothing.
use Rattle.std.specs.Prelude.{◌≡◌, ℕ, ◌≤◌, List, length, take, Some, None, Ok, Err, Option, Result}
use Rattle.lines.specs.declared.note.Note.{Note}
use Rattle.page.specs.Rules.{Needs, NothingElse}
use Rattle.std.specs.Option.{option_map}
use Rattle.text.specs.Texts.{GoodText}
use Rattle.text.specs.declared.refusal.Refusal.{Refusal}
use Rattle.text.specs.declared.refusal.Refusal.TheVariants.{Long, Text}

-- the note's bytes, or none
abbrev pub note_of : Note → Option (List ℕ)
note_of n = option_map (λ k. take k n.memory) n.len

-- a new note: a good text, of at most 1,024 bytes
abbrev pub NoteRule : List ℕ → Option Refusal → Type 0
NoteRule text = Needs (GoodText text) Text (Needs (length text ≤ 1024) Long NothingElse)

-- a text for a note: refused by the rule, with nothing altered, or taken
abbrev pub Sets : List ℕ → Note → Result Unit Refusal → Note → Type 0
Sets text before (Ok _) after = NoteRule text None × (note_of after ≡ Some text)
Sets text before (Err e) after = NoteRule text (Some e) × (after ≡ before)
