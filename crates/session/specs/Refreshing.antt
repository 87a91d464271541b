-- The line of a session drawn anew with the hinter's answer. Assumes nothing.
use Rattle.layout.specs.declared.block.Layout.{Layout}
use Rattle.judging.specs.declared.judging.Placed.{Placed}
use Rattle.page.specs.Law.{World}
use Rattle.page.specs.declared.outcome.BrokenAct.{BrokenAct}
use Rattle.session.specs.Painting.{Painted}
use Rattle.session.specs.Preparing.{Prepared}
use Rattle.session.specs.Sessions.{State}
use Rattle.session.specs.declared.session.Session.{Session}
use Rattle.session.specs.declared.tables.Tables.{Tables}
use Rattle.std.specs.Prelude.{Result}

-- hinter and highlighter are asked, and then the line is drawn by the layout that follows
pub record Refreshed {T H : Type 0} (w : World T H) (e : Placed) (x : State T H) (r : Result Unit BrokenAct) (y : State T H) : Type 0 where
  pub layout : Layout
  pub session : Session
  pub tables : Tables
  pub prepares : Prepared w e x.highlighter x.session x.tables layout session tables y.highlighter
  pub paints : Painted w.answered (w.lights y.highlighter) (w.lights_prompt y.highlighter) (w.lights_hint y.highlighter) layout session tables x.terminal r y.session y.tables y.terminal
