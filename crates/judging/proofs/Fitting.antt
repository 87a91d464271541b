-- From layouts to hints that a window holds.
use Rattle.std.proofs.Common.{◌≡◌, ℕ, ◌<◌, ◌≤◌, ltb, List, ◌++◌, Some, None, Option, sym, refl, subst}
use Rattle.judging.specs.Fitting.{FitsHint}
use Rattle.judging.specs.declared.judging.Placed.{Placed}
use Rattle.layout.specs.declared.block.Layout.{Layout}
use Rattle.layout.specs.declared.layout.Position.{Position}
use Rattle.lines.proofs.Notes.{note-text}
use Rattle.lines.specs.Notes.{note_of}
use Rattle.lines.specs.declared.note.Note.{Note}
use Rattle.measuring.specs.Measured.{Computes, NoteFine}
use Rattle.page.specs.Acts.{fitted}
use Rattle.page.specs.Page.{note_text}
use Rattle.screen.specs.Screen.{Geometry, block, place_row}
use Rattle.std.proofs.lemmas.Bool.{cond-false, cond-true, le-ltb, lt-ltb}
use Rattle.std.specs.Str.{chars}
use Rattle.terminal.specs.Windows.{geometry}
use Rattle.terminal.specs.declared.size.Size.{Size}

-- a stored note is good and short
pub stored-fine : (n : Note) (o : Option (List ℕ)) → note_of n ≡ o → NoteFine o
stored-fine n None e = tt
stored-fine n (Some t) e = let fine = note-text n t e in (fine.good, fine.short)

module _ (d : Geometry) (ps line : List ℕ) where
  -- a note that the window holds stays
  kept : (o : Option (List ℕ)) → place_row d (block d (ps ++ (chars line ++ note_text o))) < d.rows → o ≡ fitted d ps line o
  kept None h = refl
  kept (Some t) h =
      sym (cond-true (ltb (place_row d (block d (ps ++ (chars line ++ chars t)))) d.rows) (Some t) None (lt-ltb (place_row d (block d (ps ++ (chars line ++ chars t)))) d.rows h))

  -- another is dropped
  dropped : (o : Option (List ℕ)) → d.rows ≤ place_row d (block d (ps ++ (chars line ++ note_text o))) → None ≡ fitted d ps line o
  dropped None h = refl
  dropped (Some t) h =
      sym (cond-false (ltb (place_row d (block d (ps ++ (chars line ++ chars t)))) d.rows) (Some t) None (le-ltb (place_row d (block d (ps ++ (chars line ++ chars t)))) d.rows h))

module _ (w : ℕ → ℕ) (p : Position) (z : Size) (e : Placed) where
  module _ (n : Note) (text : List ℕ) (same : Some text ≡ note_of n) where
    pub keeps-hint : (l : Layout) → Computes w z p e.ends (Some text) (Some l) → FitsHint w p z e (note_of n) l (note_of n)
    keeps-hint l laid = subst (λ (o : Option (List ℕ)). FitsHint w p z e o l o) same held
      where
        held : FitsHint w p z e (Some text) l (Some text)
        held ps line pos s =
            let both = laid ps line pos s.behind.good s.behind.prompt s.text s.place s.placed.ends (stored-fine n (Some text) (sym same)) in
            record { hint = kept (geometry w z) ps line (Some text) both.0; laid = both.1 }

    pub drops-hint : (after : Option (List ℕ)) → after ≡ None → Computes w z p e.ends (Some text) None → FitsHint w p z e (note_of n) e.layout after
    drops-hint after gone none =
        subst (λ (o : Option (List ℕ)). FitsHint w p z e (note_of n) e.layout o) (sym gone) (subst (λ (o : Option (List ℕ)). FitsHint w p z e o e.layout None) same left)
      where
        left : FitsHint w p z e (Some text) e.layout None
        left ps line pos s =
            let high = none ps line pos s.behind.good s.behind.prompt s.text s.place s.placed.ends (stored-fine n (Some text) (sym same)) in
            record { hint = dropped (geometry w z) ps line (Some text) high; laid = s.placed.laid }
