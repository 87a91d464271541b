use Rattle.std.proofs.Common.{ℕ, ◌≤◌, List, length, rules, sym, arith}
use Rattle.highlight.specs.Answers.{Answers}
use Rattle.lines.proofs.Notes.{note-text}
use Rattle.page.proofs.Spelt.{spells-decodes}
use Rattle.render.proofs.Answering.{answer-appends}
use Rattle.render.proofs.Styling.{note-appends}
use Rattle.std.specs.Str.{chars}
use Rattle.render.proofs.renderer.PosixRenderer.push_lit_note.Goals as goal

pub returns : goal.returns
returns g c =
    let t = c.in-Some.text.now in
    let h = c.args.highlighter.now in
    let fine = note-text c.args.note.now t (sym c.in-Some.ensures) in
    let w = c.extend_with.ensures.1 in
    let lent : Answers (g.H.Highlighter.lights_hint h t) t w.shown.now c.extend_with.result w.left.now = search rules in
    let short : (lit : List ℕ) → g.H.Highlighter.lights_hint h t lit → length lit ≤ 1280 = λ lit a. omega (arith, (g.met.H.Highlighter.hint_shown h t (chars t) lit (spells-decodes t fine.good) a).short, fine.short) in
    note-appends (g.H.Highlighter.lights_hint h) c.args.note.now t 1280 c.in-Some.ensures
    (answer-appends c.args.self.now (g.H.Highlighter.lights_hint h t) t c.extend_with.ensures.0 c.extend_with.result _ c.unwrap.result 1280 (rw (w.shows, w.leaves) at lent) c.extend_with.ensures.2 c.unwrap.ensures short)
