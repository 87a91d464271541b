-- The examples about ready screens.
use Rattle.std.proofs.Common.{◌≡◌, ℕ, ◌≤◌, Bool, true, false, cond, ◌&&◌, None, eqb, refl, sym, ap, arith}
use borrow.Author.Tests.{clash}
use Rattle.screen.specs.declared.cells.Cell.{Cell}
use Rattle.screen.specs.declared.cells.Cell.TheVariants.{Blank, Glyph, RightHalf}
use Rattle.screen.specs.declared.cells.Parser.{Parser}
use Rattle.screen.specs.declared.cells.Parser.TheVariants.{Character, Escape, Ground, Sequence}
use Rattle.std.proofs.lemmas.Bool.{ne_eqb}
use Rattle.worked.specs.Readiness.{WorkedReady, letter_at}

-- whether a cell is blank
blank_cell : Cell → Bool
blank_cell Blank = true
blank_cell (Glyph c m) = false
blank_cell RightHalf = false

-- whether nothing is unfinished
on_ground : Parser → Bool
on_ground Ground = true
on_ground Escape = false
on_ground (Sequence p) = false
on_ground (Character p) = false

glyph-not : Glyph 97 None ≡ Blank → ⊥
unfolding blank_cell
glyph-not e = clash (ap blank_cell e)

below-blank : (i j : ℕ) → 3 ≤ i → letter_at 2 0 i j ≡ Blank
below-blank i j le = ap (λ (b : Bool). cond (b && eqb j 0) (Glyph 97 None) Blank) (no-two i le)
  where
    no-two : (i : ℕ) → 3 ≤ i → eqb i 2 ≡ false
    no-two i le = ne_eqb i 2 (λ e. omega arith)

pub worked-ready : WorkedReady
unfolding on_ground
worked-ready = record {
  blank-ready = record { column = refl; blank = λ i j h. refl; free = refl; finished = refl };
  above-ready = record { column = refl; blank = λ i j h. below-blank i j (omega arith); free = refl; finished = refl };
  column-not = λ r. let e = r.column in omega arith;
  row-not = λ r. glyph-not (r.blank 3 4 (omega arith));
  below-not = λ r. glyph-not (r.blank 9 0 (omega arith));
  held-not = λ r. clash (sym r.free);
  unfinished-not = λ r. clash (ap on_ground r.finished);
}
