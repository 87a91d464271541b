use Rattle.std.proofs.Common.{◌++◌, sym, ap, ◌∙◌, append-nil}
use Rattle.lines.specs.Lines.{line_of}
use Rattle.lines.specs.Notes.{note_of}
use Rattle.lines.specs.Prompts.{raw_of}
use Rattle.render.proofs.Buffers.{push-three}
use Rattle.render.proofs.Styling.{plain-appends}
use Rattle.render.specs.Composing.{composed}
use Rattle.render.specs.Drawing.{note_bytes}
use Rattle.render.proofs.renderer.PosixRenderer.push_texts.Goals as goal

pub returns-in-Some : goal.returns-in-Some
returns-in-Some c =
    let before = composed c.args.self.now in
    let one = composed c.push.new.self in
    let two = composed c.push-2.new.self in
    plain-appends c.args.block.now.prompt.now c.args.block.now.line.now c.args.block.now.note.now before (composed c.push-in-Some.new.self)
    (push-three before one two (composed c.push-in-Some.new.self) (raw_of c.args.block.now.prompt.now) (line_of c.args.block.now.line.now) (note_bytes (note_of c.args.block.now.note.now))
    (c.push.ensures ∙ ap (λ x. before ++ x) c.raw.ensures) (c.push-2.ensures ∙ ap (λ x. one ++ x) c.line.ensures) (c.push-in-Some.ensures ∙ ap (λ o. two ++ note_bytes o) c.in-Some.ensures))

pub returns-in_default : goal.returns-in_default
returns-in_default c =
    let before = composed c.args.self.now in
    let one = composed c.push.new.self in
    let two = composed c.push-2.new.self in
    plain-appends c.args.block.now.prompt.now c.args.block.now.line.now c.args.block.now.note.now before two
    (push-three before one two two (raw_of c.args.block.now.prompt.now) (line_of c.args.block.now.line.now) (note_bytes (note_of c.args.block.now.note.now))
    (c.push.ensures ∙ ap (λ x. before ++ x) c.raw.ensures) (c.push-2.ensures ∙ ap (λ x. one ++ x) c.line.ensures) (sym (append-nil two) ∙ ap (λ o. two ++ note_bytes o) c.in_default.ensures))
