-- Hints that a window holds behind a line. Assumes nothing.
use Rattle.std.specs.Prelude.{◌≡◌, ℕ, List, [], ◌++◌, take, Option}
use Rattle.judging.specs.Judgements.{Behind, Low, PlacedFor}
use Rattle.judging.specs.declared.judging.Placed.{Placed}
use Rattle.layout.specs.declared.block.Layout.{Layout}
use Rattle.layout.specs.declared.layout.Position.{Position}
use Rattle.measuring.specs.Measured.{Laid}
use Rattle.page.specs.Acts.{fitted}
use Rattle.page.specs.Page.{note_text}
use Rattle.page.specs.Rules.{AtBoundary}
use Rattle.screen.specs.Screen.{Geometry}
use Rattle.std.specs.Str.{chars}
use Rattle.terminal.specs.Windows.{geometry}
use Rattle.terminal.specs.declared.size.Size.{Size}
use Rattle.text.specs.Texts.{GoodText}

-- the layout of a prompt, a line with its edit position, and a note
abbrev pub LaidOut : Geometry → List ℕ → List ℕ → ℕ → Option (List ℕ) → Layout → Type 0
LaidOut d ps line pos note l = Laid d ps (ps ++ chars (take pos line)) (ps ++ (chars line ++ note_text note)) l

-- a line that the window holds, measured behind its prompt
pub record Standing (w : ℕ → ℕ) (p : Position) (z : Size) (e : Placed) (ps line : List ℕ) (pos : ℕ) : Type 0 where
  pub behind : Behind w z ps p
  pub text : GoodText line
  pub place : AtBoundary line pos
  pub placed : PlacedFor w z ps line pos e
  pub low : Low (geometry w z) ps line []

-- a hint that the window holds stays, another is dropped; and the layout with what is left
pub record Fits (d : Geometry) (ps line : List ℕ) (pos : ℕ) (before : Option (List ℕ)) (l : Layout) (after : Option (List ℕ)) : Type 0 where
  pub hint : after ≡ fitted d ps line before
  pub laid : LaidOut d ps line pos after l

abbrev pub FitsHint : (ℕ → ℕ) → Position → Size → Placed → Option (List ℕ) → Layout → Option (List ℕ) → Type 0
FitsHint w p z e before l after = (ps line : List ℕ) (pos : ℕ) → Standing w p z e ps line pos → Fits (geometry w z) ps line pos before l after
