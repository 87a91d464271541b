use Rattle.std.proofs.Common.{ℕ, ◌≤◌, List, length, rules, arith}
use Rattle.highlight.specs.Answers.{Answers}
use Rattle.lines.proofs.Buffers.{line-good, line-short}
use Rattle.lines.specs.Lines.{line_of}
use Rattle.page.proofs.Spelt.{spells-decodes}
use Rattle.render.proofs.Answering.{answer-appends}
use Rattle.std.specs.Str.{chars}
use Rattle.render.proofs.renderer.PosixRenderer.push_lit_line.Goals as goal

pub returns : goal.returns
returns g c =
    let b = c.args.line.now in
    let h = c.args.highlighter.now in
    let w = c.extend_with.ensures.1 in
    let lent : Answers (g.H.Highlighter.lights h c.line-text.result.now c.pos-pos.result) c.line-text.result.now w.shown.now c.extend_with.result w.left.now = search rules in
    let short : (lit : List ℕ) → g.H.Highlighter.lights h (line_of b) b.pos lit → length lit ≤ 4352 = λ lit a. omega (arith, (g.met.H.Highlighter.line_shown h (line_of b) (chars (line_of b)) lit b.pos (spells-decodes (line_of b) (line-good b)) a).short, line-short b) in
    answer-appends c.args.self.now (g.H.Highlighter.lights h (line_of b) b.pos) (line_of b) c.extend_with.ensures.0 c.extend_with.result _ c.unwrap.result 4352 (rw (w.shows, w.leaves, c.line-text.ensures, c.pos-pos.ensures) at lent) c.extend_with.ensures.2 c.unwrap.ensures short
