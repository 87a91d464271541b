use Rattle.page.proofs.Chaining.{law-of-chains}
use Rattle.running.proofs.Meanings.{meant}
use Rattle.running.proofs.law.law_of_chains.Goals as goal
use Rattle.session.specs.Acting.{world_of}

pub returns : goal.returns
returns g c = λ hints z raw styled.
    law-of-chains (world_of g.T.Terminal.screen g.T.Terminal.extent g.T.Terminal.answered g.T.Widths.WidthTable.columns g.H.Highlighter.lights g.H.Highlighter.lights_prompt g.H.Highlighter.lights_hint g.H.Highlighter.heeds hints) z
    (meant g.T.Terminal.screen g.T.Terminal.extent g.T.Terminal.answered g.T.Widths.WidthTable.columns g.H.Highlighter.lights g.H.Highlighter.lights_prompt g.H.Highlighter.lights_hint g.H.Highlighter.heeds hints
    g.met.T.Terminal.inside g.met.T.Terminal.works g.met.T.Terminal.fixed g.met.T.Widths.WidthTable.narrow g.met.T.Widths.WidthTable.controls g.met.H.Highlighter.line_shown g.met.H.Highlighter.prompt_shown g.met.H.Highlighter.hint_shown)
    raw styled
