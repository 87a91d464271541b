use Rattle.lines.proofs.Notes.{text-stored}
use Rattle.lines.proofs.note.Note.keep.Goals as goal

pub invariant_of-self : goal.invariant_of-self
invariant_of-self c = record { good = text-stored _ c.args.text.now c.write_front.ensures c.requires.short c.requires.good }
