use Rattle.std.proofs.Common.{sym, ap, ◌∙◌}
use Rattle.lines.proofs.Notes.{note-text}
use Rattle.std.specs.Option.{option_map}
use Rattle.lines.proofs.note.Note.copy_from.Goals as goal

pub keep-requires-clause-good : goal.keep-requires-clause-good
keep-requires-clause-good c = (note-text c.args.other.now c.in-Some.text.now (sym c.get.ensures ∙ ap (option_map (λ x. x.now)) c.in-Some.is)).good

pub keep-requires-clause-short : goal.keep-requires-clause-short
keep-requires-clause-short c = (note-text c.args.other.now c.in-Some.text.now (sym c.get.ensures ∙ ap (option_map (λ x. x.now)) c.in-Some.is)).short
