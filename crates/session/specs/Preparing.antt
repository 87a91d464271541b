-- What is asked and laid out before a line is drawn. Assumes nothing.
use Rattle.std.specs.Prelude.{◌≡◌, Bool}
use Rattle.judging.specs.Fitting.{FitsHint}
use Rattle.layout.specs.declared.block.Layout.{Layout}
use Rattle.lines.specs.Lines.{line_of}
use Rattle.lines.specs.Notes.{note_of}
use Rattle.measuring.specs.Measured.{NoteFine}
use Rattle.judging.specs.declared.judging.Placed.{Placed}
use Rattle.page.specs.Law.{World}
use Rattle.session.specs.Asking.{Asked}
use Rattle.session.specs.declared.session.Session.{Session}
use Rattle.session.specs.declared.tables.Tables.{Tables}

-- the hinter's answer that the window holds is hint and note, the layout is that with it, and the highlighter was asked
pub record Prepared {T H : Type 0} (w : World T H) (e : Placed) (h : H) (s : Session) (b : Tables) (l : Layout) (t : Session) (c : Tables) (k : H) : Type 0 where
  pub fine : NoteFine (w.hints (line_of b.line) b.line.pos)
  pub hint : FitsHint w.columns s.prompt s.size e (w.hints (line_of b.line) b.line.pos) l (note_of c.hint)
  pub note : note_of c.note ≡ note_of c.hint
  pub anew : Bool
  pub asked : Asked w.heeds_other h b.line s anew t k
  pub prompt : c.prompt ≡ b.prompt
  pub line : c.line ≡ b.line
  pub renderer : c.renderer ≡ b.renderer
