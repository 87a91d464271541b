-- A notice written in the place of a block, which is drawn below it. Assumes nothing.
use Rattle.std.specs.Prelude.{◌≡◌, ℕ, Bool, cond, List, [], ◌∷◌, ◌++◌, Result}
use Rattle.layout.specs.declared.block.Layout.{Layout}
use Rattle.page.specs.Acts.{ends_line}
use Rattle.page.specs.Law.{Written}
use Rattle.page.specs.Output.{framed}
use Rattle.page.specs.declared.outcome.BrokenAct.{BrokenAct}
use Rattle.render.specs.Drawing.{Styles, draw_layout, erase_layout}
use Rattle.terminal.specs.Answers.{WriteAnswer}

-- an LF behind a text that does not end with one
abbrev pub closing_line : List ℕ → List (List ℕ)
closing_line text = cond (ends_line text) [] ((10 ∷ []) ∷ [])

-- what erases the block, the text, an LF if it has none, and what draws the block
abbrev pub notice_writes : List ℕ → List ℕ → List ℕ → List (List ℕ)
notice_writes erasing text drawing = erasing ∷ (text ∷ (closing_line text ++ (drawing ∷ [])))

-- a block is composed, and written around a notice, in a held update or without one
pub record Printed {T : Type 0} (answered : T → List ℕ → WriteAnswer → T → Type 0) (allows : Styles → Type 0) (old new : Layout) (text : List ℕ) (holds : Bool) (before : T) (r : Result Unit BrokenAct) (after : T) (buffer : List ℕ) : Type 0 where
  pub styles : Styles
  pub styled : allows styles
  pub bytes : buffer ≡ erase_layout old ++ draw_layout styles new
  pub written : Written answered before (framed holds (notice_writes (erase_layout old) text (draw_layout styles new))) r after
