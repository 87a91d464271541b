-- What a check of a session's settings accepts. Assumes nothing.
use Rattle.std.specs.Prelude.{◌≡◌, ℕ, Bool, true, List, [], Option, Result}
use Rattle.judging.specs.Judgements.{Judged, Low}
use Rattle.lines.specs.Forms.{Form, PromptFine}
use Rattle.lines.specs.Prompts.{MadeOf}
use Rattle.page.specs.Rules.{Needs, NothingElse}
use Rattle.screen.specs.Screen.{Geometry}
use Rattle.session.specs.declared.setup.Setup.{Setup}
use Rattle.terminal.specs.Limits.{proper}
use Rattle.text.specs.declared.refusal.Refusal.{Refusal}
use Rattle.text.specs.declared.refusal.Refusal.TheVariants as refusal

-- a window of so many columns and rows, by a width table
abbrev pub window : (ℕ → ℕ) → ℕ → ℕ → Geometry
window w cols rows = record { width = w; cols = cols; rows = rows }

-- what was given
pub record Accepted (columns lines : ℕ) (first second : List ℕ) (coloured held : Bool) (s : Setup) : Type 0 where
  pub cols : s.size.cols ≡ columns
  pub rows : s.size.rows ≡ lines
  pub prompt : MadeOf first second s.prompt
  pub colours : s.colours ≡ coloured
  pub holds : s.holds ≡ held

-- 1 for a size out of range, else 2 for forms that do not show one good text, else 6 for a prompt higher than the window
abbrev pub CheckRule : (ℕ → ℕ) → ℕ → ℕ → List ℕ → List ℕ → Option Refusal → Type 0
CheckRule w cols rows raw styled =
    Needs (proper cols rows ≡ true) refusal.Size
    (Needs (PromptFine raw styled) refusal.Prompt
    (Needs ((cs : List ℕ) → Form raw cs → Low (window w cols rows) cs [] []) refusal.Tall NothingElse))

abbrev pub Checks : (ℕ → ℕ) → ℕ → ℕ → List ℕ → List ℕ → Bool → Bool → Result Setup Refusal → Type 0
Checks w cols rows raw styled colours holds r = Judged (CheckRule w cols rows raw styled) (Accepted cols rows raw styled colours holds) r
