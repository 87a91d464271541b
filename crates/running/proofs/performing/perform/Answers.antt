use Rattle.std.proofs.Common.{refl, ap}
use Rattle.page.specs.Acts.{go, message, notice}
use Rattle.running.proofs.Histories.{performed}
use Rattle.running.proofs.performing.perform.Goals as goal
use Rattle.session.specs.Acting.{state_of, world_of}
use Rattle.running.specs.Deeds.{deed}

pub returns-in-Go : goal.returns-in-Go
returns-in-Go g c =
    performed (world_of g.T.Terminal.screen g.T.Terminal.extent g.T.Terminal.answered g.T.Widths.WidthTable.columns g.H.Highlighter.lights g.H.Highlighter.lights_prompt g.H.Highlighter.lights_hint g.H.Highlighter.heeds (g.N.Hinter.hints c.args.hinter.now))
    (state_of c.args.terminal.now c.args.highlighter.now c.args.session.now c.args.tables.now)
    (state_of c.go.new.terminal c.go.new.highlighter c.go.new.self c.go.new.tables)
    (deed c.args.act.now) (go c.in-Go.pos) c.go.result (ap deed c.in-Go.is) refl (c.go.ensures (g.N.Hinter.hints c.args.hinter.now))

pub returns-in-Message : goal.returns-in-Message
returns-in-Message g c =
    performed (world_of g.T.Terminal.screen g.T.Terminal.extent g.T.Terminal.answered g.T.Widths.WidthTable.columns g.H.Highlighter.lights g.H.Highlighter.lights_prompt g.H.Highlighter.lights_hint g.H.Highlighter.heeds (g.N.Hinter.hints c.args.hinter.now))
    (state_of c.args.terminal.now c.args.highlighter.now c.args.session.now c.args.tables.now)
    (state_of c.message.new.terminal c.message.new.highlighter c.message.new.self c.message.new.tables)
    (deed c.args.act.now) (message c.in-Message.text.now) c.message.result (ap deed c.in-Message.is) refl (c.message.ensures (g.N.Hinter.hints c.args.hinter.now))

pub returns-in-Notice : goal.returns-in-Notice
returns-in-Notice g c =
    performed (world_of g.T.Terminal.screen g.T.Terminal.extent g.T.Terminal.answered g.T.Widths.WidthTable.columns g.H.Highlighter.lights g.H.Highlighter.lights_prompt g.H.Highlighter.lights_hint g.H.Highlighter.heeds (g.N.Hinter.hints c.args.hinter.now))
    (state_of c.args.terminal.now c.args.highlighter.now c.args.session.now c.args.tables.now)
    (state_of c.notice.new.terminal c.args.highlighter.now c.notice.new.self c.notice.new.tables)
    (deed c.args.act.now) (notice c.in-Notice.text.now) c.notice.result (ap deed c.in-Notice.is) refl (c.notice.ensures (g.N.Hinter.hints c.args.hinter.now))
