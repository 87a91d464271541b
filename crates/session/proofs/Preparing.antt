-- What was asked and laid out before a line is drawn.
use Rattle.std.proofs.Common.{◌≡◌, ℕ, Bool, List, Option, refl, ◌∙◌, subst}
use Rattle.judging.proofs.Fitting.{stored-fine}
use Rattle.judging.specs.Fitting.{FitsHint}
use Rattle.layout.specs.declared.block.Layout.{Layout}
use Rattle.lines.specs.Lines.{line_of}
use Rattle.lines.specs.Notes.{note_of}
use Rattle.lines.specs.declared.note.Note.{Note}
use Rattle.judging.specs.declared.judging.Placed.{Placed}
use Rattle.page.specs.Law.{World}
use Rattle.session.specs.Asking.{Asked}
use Rattle.session.specs.Preparing.{Prepared}
use Rattle.session.specs.declared.session.Session.{Session}
use Rattle.session.specs.declared.tables.Tables.{Tables}

-- a hint filled in for the line, then fitted and copied
pub prepared : {T H : Type 0} (w : World T H) (e : Placed) (h : H) (s : Session) (b : Tables) (l : Layout) (t : Session) (k : H) (filled hint note : Note) (line : List ℕ) (pos : ℕ) (anew : Bool)
    → line ≡ line_of b.line → pos ≡ b.line.pos → note_of filled ≡ w.hints line pos
    → FitsHint w.columns s.prompt s.size e (note_of filled) l (note_of hint)
    → note_of note ≡ note_of hint → Asked w.heeds_other h b.line s anew t k
    → Prepared w e h s b l t (record { prompt = b.prompt; line = b.line; note = note; hint = hint; renderer = b.renderer }) k
prepared w e h s b l t k filled hint note line pos anew il ip f fits copied asked =
    let is : note_of filled ≡ w.hints (line_of b.line) b.line.pos = f ∙ (λ i. w.hints (il i) (ip i)) in
    record {
      fine = stored-fine filled (w.hints (line_of b.line) b.line.pos) is;
      hint = subst (λ (o : Option (List ℕ)). FitsHint w.columns s.prompt s.size e o l (note_of hint)) is fits;
      note = copied;
      anew = anew;
      asked = asked;
      prompt = refl;
      line = refl;
      renderer = refl;
    }
