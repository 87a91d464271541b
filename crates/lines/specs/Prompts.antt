-- Prompts, and what they are made of. Assumes nothing.
use Rattle.std.specs.Prelude.{◌≡◌, ℕ, List, Ok, Err, Result}
use Rattle.buffer.specs.Contents.{contents}
use Rattle.lines.specs.Forms.{Form, PromptFine}
use Rattle.lines.specs.declared.prompt.Prompt.{Prompt}
use Rattle.text.specs.Texts.{Spells}
use Rattle.text.specs.declared.refusal.Refusal.{Refusal}
use Rattle.text.specs.declared.refusal.Refusal.TheVariants as refusal

-- the form for a terminal without colours
abbrev pub raw_of : Prompt → List ℕ
raw_of p = contents p.raw

-- the form for a terminal with colours
abbrev pub styled_of : Prompt → List ℕ
styled_of p = contents p.styled

-- the text that both show
abbrev pub visible_of : Prompt → List ℕ
visible_of p = contents p.visible

-- a prompt made of two forms, with the text that they show
pub record MadeOf (raw styled : List ℕ) (p : Prompt) : Type 0 where
  pub raw-form : raw_of p ≡ raw
  pub styled-form : styled_of p ≡ styled
  pub characters : List ℕ
  pub raw-shows : Form raw characters
  pub styled-shows : Form styled characters
  pub visible : Spells (visible_of p) characters

-- two forms make a prompt exactly if both show the same
abbrev pub MakesPrompt : List ℕ → List ℕ → Result Prompt Refusal → Type 0
MakesPrompt raw styled (Ok p) = MadeOf raw styled p
MakesPrompt raw styled (Err e) = (e ≡ refusal.Prompt) × (PromptFine raw styled → ⊥)
