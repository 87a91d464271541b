-- What a layout, or that there is none, tells of the height of a line without a note.
use Rattle.std.proofs.Common.{ℕ, ◌<◌, ◌≤◌, List, [], ◌++◌, sym, subst, arith}
use Rattle.judging.specs.Judgements.{Low}
use Rattle.screen.specs.Screen.{Geometry, block, place_row}
use Rattle.std.proofs.lemmas.Str.{chars-nil}
use Rattle.std.specs.Str.{chars}

module _ (d : Geometry) (ps line : List ℕ) where
  pub low-none : place_row d (block d (ps ++ (chars line ++ []))) < d.rows → Low d ps line []
  low-none h = subst (λ (x : List ℕ). place_row d (block d (ps ++ (chars line ++ x))) < d.rows) (sym chars-nil) h

  pub not_low : d.rows ≤ place_row d (block d (ps ++ (chars line ++ []))) → Low d ps line [] → ⊥
  not_low h l =
      let low : place_row d (block d (ps ++ (chars line ++ []))) < d.rows = subst (λ (x : List ℕ). place_row d (block d (ps ++ (chars line ++ x))) < d.rows) chars-nil l in
      omega arith
