use Rattle.std.proofs.Common.{◌≡◌, None, rules}
use Rattle.running.proofs.Meanings.{meant}
use Rattle.running.proofs.Runs.{kept-over, onward-back, onward-kept, onward-none, ran-closed, ran-over}
use Rattle.running.proofs.run.run.Goals as goal
use Rattle.session.specs.Acting.{state_of, world_of}
use Rattle.session.specs.Buffering.{buffer_of}

pub loop-act-init : goal.loop-act-init
loop-act-init g c =
    onward-none g.O.Observer.told (world_of g.T.Terminal.screen g.T.Terminal.extent g.T.Terminal.answered g.T.Widths.WidthTable.columns g.H.Highlighter.lights g.H.Highlighter.lights_prompt g.H.Highlighter.lights_hint g.H.Highlighter.heeds (g.N.Hinter.hints c.args.hinter.now))
    (state_of c.create-outcome.new.terminal c.create-outcome.new.highlighter c.create-outcome.result.0 c.create-outcome.new.tables) c.created.new.self c.create-outcome.ensures.sound

pub loop-act-preserved-in-Some : goal.loop-act-preserved-in-Some
loop-act-preserved-in-Some g c =
    onward-kept g.O.Observer.told (world_of g.T.Terminal.screen g.T.Terminal.extent g.T.Terminal.answered g.T.Widths.WidthTable.columns g.H.Highlighter.lights g.H.Highlighter.lights_prompt g.H.Highlighter.lights_hint g.H.Highlighter.heeds (g.N.Hinter.hints c.args.hinter.now))
    (state_of c.create-outcome.new.terminal c.create-outcome.new.highlighter c.create-outcome.result.0 c.create-outcome.new.tables) (state_of c.loop-act.terminal c.loop-act.highlighter c.loop-act.session c.loop-act.tables) c.created.new.self c.loop-act.observer c.args.acts.now c.loop-act.act-index _ c.loop-act-test.true c.loop-act.invariant
    c.perform.result c.in-Some.outcome (state_of c.perform.new.terminal c.perform.new.highlighter c.perform.new.session c.perform.new.tables) c.acted.new.self c.perform.ensures c.in-Some.is (rw c.is_torn-in-Some.ensures at c.acted.ensures)

pub loop-act-preserved : goal.loop-act-preserved
loop-act-preserved g c =
    let bare : c.perform.result ≡ None = search rules in
    onward-back g.O.Observer.told (world_of g.T.Terminal.screen g.T.Terminal.extent g.T.Terminal.answered g.T.Widths.WidthTable.columns g.H.Highlighter.lights g.H.Highlighter.lights_prompt g.H.Highlighter.lights_hint g.H.Highlighter.heeds (g.N.Hinter.hints c.args.hinter.now))
    (state_of c.create-outcome.new.terminal c.create-outcome.new.highlighter c.create-outcome.result.0 c.create-outcome.new.tables) (state_of c.loop-act.terminal c.loop-act.highlighter c.loop-act.session c.loop-act.tables) c.created.new.self c.loop-act.observer c.args.acts.now c.loop-act.act-index _ c.loop-act-test.true c.loop-act.invariant
    c.perform.result (state_of c.perform.new.terminal c.perform.new.highlighter c.perform.new.session c.perform.new.tables) (state_of c.finish.new.terminal c.perform.new.highlighter c.in-Err.back c.finish.new.tables) c.in-Err.rejection c.acted-in-Err.new.self c.perform.ensures bare
    (c.in-Err.ensures (g.N.Hinter.hints c.args.hinter.now)) (rw c.is_torn-in-Err.ensures at c.acted-in-Err.ensures)

pub returns-in-Ok-clause-ran : goal.returns-in-Ok-clause-ran
returns-in-Ok-clause-ran g c =
    let end = c.in-Ok.ensures (g.N.Hinter.hints c.args.hinter.now) in
    let bare : c.perform.result ≡ None = search rules in
    ran-closed g.O.Observer.told (world_of g.T.Terminal.screen g.T.Terminal.extent g.T.Terminal.answered g.T.Widths.WidthTable.columns g.H.Highlighter.lights g.H.Highlighter.lights_prompt g.H.Highlighter.lights_hint g.H.Highlighter.heeds (g.N.Hinter.hints c.args.hinter.now))
    (meant g.T.Terminal.screen g.T.Terminal.extent g.T.Terminal.answered g.T.Widths.WidthTable.columns g.H.Highlighter.lights g.H.Highlighter.lights_prompt g.H.Highlighter.lights_hint g.H.Highlighter.heeds (g.N.Hinter.hints c.args.hinter.now)
    g.met.T.Terminal.inside g.met.T.Terminal.works g.met.T.Terminal.fixed g.met.T.Widths.WidthTable.narrow g.met.T.Widths.WidthTable.controls g.met.H.Highlighter.line_shown g.met.H.Highlighter.prompt_shown g.met.H.Highlighter.hint_shown)
    c.args.setup.now c.args.terminal.now c.args.highlighter.now c.args.observer.now (state_of c.create-outcome.new.terminal c.create-outcome.new.highlighter c.create-outcome.result.0 c.create-outcome.new.tables) c.create-outcome.result.1 c.created.new.self (buffer_of c.args.tables.now) c.create-outcome.ensures (rw c.is_torn.ensures at c.created.ensures) c.args.acts.now
    (state_of c.loop-act.terminal c.loop-act.highlighter c.loop-act.session c.loop-act.tables) c.loop-act.observer c.loop-act.act-index _ c.loop-act-test.true c.loop-act.invariant
    c.perform.result (state_of c.perform.new.terminal c.perform.new.highlighter c.perform.new.session c.perform.new.tables) c.finish.new.terminal c.perform.new.highlighter c.finish.new.tables c.acted-in-Ok.new.self c.perform.ensures bare end.steps end.texts c.acted-in-Ok.ensures

pub returns : goal.returns
returns g c = record {
  ran = ran-over g.O.Observer.told (world_of g.T.Terminal.screen g.T.Terminal.extent g.T.Terminal.answered g.T.Widths.WidthTable.columns g.H.Highlighter.lights g.H.Highlighter.lights_prompt g.H.Highlighter.lights_hint g.H.Highlighter.heeds (g.N.Hinter.hints c.args.hinter.now))
      (meant g.T.Terminal.screen g.T.Terminal.extent g.T.Terminal.answered g.T.Widths.WidthTable.columns g.H.Highlighter.lights g.H.Highlighter.lights_prompt g.H.Highlighter.lights_hint g.H.Highlighter.heeds (g.N.Hinter.hints c.args.hinter.now)
      g.met.T.Terminal.inside g.met.T.Terminal.works g.met.T.Terminal.fixed g.met.T.Widths.WidthTable.narrow g.met.T.Widths.WidthTable.controls g.met.H.Highlighter.line_shown g.met.H.Highlighter.prompt_shown g.met.H.Highlighter.hint_shown)
      c.args.setup.now c.args.terminal.now c.args.highlighter.now c.args.observer.now (state_of c.create-outcome.new.terminal c.create-outcome.new.highlighter c.create-outcome.result.0 c.create-outcome.new.tables) c.create-outcome.result.1 c.created.new.self (buffer_of c.args.tables.now) c.create-outcome.ensures (rw c.is_torn.ensures at c.created.ensures) c.args.acts.now
      (state_of c.loop-act.terminal c.loop-act.highlighter c.loop-act.session c.loop-act.tables) c.loop-act.observer c.loop-act.act-index c.loop-act-test.false c.loop-act.invariant;
  kept = kept-over g.O.Observer.told (world_of g.T.Terminal.screen g.T.Terminal.extent g.T.Terminal.answered g.T.Widths.WidthTable.columns g.H.Highlighter.lights g.H.Highlighter.lights_prompt g.H.Highlighter.lights_hint g.H.Highlighter.heeds (g.N.Hinter.hints c.args.hinter.now))
      (meant g.T.Terminal.screen g.T.Terminal.extent g.T.Terminal.answered g.T.Widths.WidthTable.columns g.H.Highlighter.lights g.H.Highlighter.lights_prompt g.H.Highlighter.lights_hint g.H.Highlighter.heeds (g.N.Hinter.hints c.args.hinter.now)
      g.met.T.Terminal.inside g.met.T.Terminal.works g.met.T.Terminal.fixed g.met.T.Widths.WidthTable.narrow g.met.T.Widths.WidthTable.controls g.met.H.Highlighter.line_shown g.met.H.Highlighter.prompt_shown g.met.H.Highlighter.hint_shown)
      c.args.setup.now c.args.terminal.now c.args.highlighter.now c.args.observer.now (state_of c.create-outcome.new.terminal c.create-outcome.new.highlighter c.create-outcome.result.0 c.create-outcome.new.tables) c.create-outcome.result.1 c.created.new.self (buffer_of c.args.tables.now) c.create-outcome.ensures (rw c.is_torn.ensures at c.created.ensures) c.args.acts.now
      (state_of c.loop-act.terminal c.loop-act.highlighter c.loop-act.session c.loop-act.tables) c.loop-act.observer _ c.loop-act.invariant;
}
