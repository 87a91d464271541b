use Rattle.std.proofs.Common.{ℕ, ◌≤◌, true, List, length, rules, arith}
use Rattle.highlight.specs.Answers.{Answers}
use Rattle.lines.proofs.Prompts.{styled-short, styled-shows}
use Rattle.lines.specs.Prompts.{styled_of, visible_of}
use Rattle.render.proofs.Answering.{answer-appends}
use Rattle.std.specs.Str.{chars}
use Rattle.render.proofs.renderer.PosixRenderer.push_lit_prompt.Goals as goal

pub returns : goal.returns
returns g c =
    let p = c.args.prompt.now in
    let h = c.args.highlighter.now in
    let w = c.extend_with.ensures.1 in
    let lent : Answers (g.H.Highlighter.lights_prompt h c.styled-form.result.now true) c.styled-form.result.now w.shown.now c.extend_with.result w.left.now = search rules in
    let short : (lit : List ℕ) → g.H.Highlighter.lights_prompt h (styled_of p) true lit → length lit ≤ 768 = λ lit a. omega (arith, (g.met.H.Highlighter.prompt_shown h (styled_of p) (chars (visible_of p)) lit true (styled-shows p) a).short, styled-short p) in
    answer-appends c.args.self.now (g.H.Highlighter.lights_prompt h (styled_of p) true) (styled_of p) c.extend_with.ensures.0 c.extend_with.result _ c.unwrap.result 768 (rw (w.shows, w.leaves, c.styled-form.ensures) at lent) c.extend_with.ensures.2 c.unwrap.ensures short
