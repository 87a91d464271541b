use Rattle.lines.proofs.Notes.{hint-stored}
use Rattle.lines.proofs.note.Note.fill.Goals as goal

pub invariant_of-self : goal.invariant_of-self
invariant_of-self g c = record { good = hint-stored _ _ _ _ c.hint-self.ensures }
