use Rattle.std.proofs.Common.{take}
use Rattle.running.proofs.Runs.{Onward}
use Rattle.running.proofs.run.run.Given as goal
use Rattle.session.specs.Acting.{state_of, world_of}
use Rattle.running.specs.Deeds.{deeds}

abbrev pub invariant-loop-act : goal.invariant-loop-act
invariant-loop-act g l =
    Onward g.O.Observer.told (world_of g.T.Terminal.screen g.T.Terminal.extent g.T.Terminal.answered g.T.Widths.WidthTable.columns g.H.Highlighter.lights g.H.Highlighter.lights_prompt g.H.Highlighter.lights_hint g.H.Highlighter.heeds (g.N.Hinter.hints l.hinter))
    (state_of l.initial.terminal l.initial.highlighter l.initial.session l.initial.tables) (state_of l.terminal l.highlighter l.session l.tables) l.initial.observer l.observer (deeds (take l.act-index l.acts))
