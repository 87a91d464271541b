-- The forms of a prompt. Assumes nothing.
use Rattle.std.specs.Prelude.{◌≡◌, ℕ, ◌≤◌, List, length, Ok, Err, Result}
use Rattle.std.proofs.Math.Utf8.{encodes}
use Rattle.buffer.specs.Contents.{contents}
use Rattle.buffer.specs.declared.buffer.Buffer.{Buffer}
use Rattle.text.specs.Texts.{Styled}
use Rattle.text.specs.declared.refusal.Refusal.{Refusal}
use Rattle.text.specs.declared.refusal.Refusal.TheVariants as refusal

-- a form that shows the characters cs: a good styled text of at most 512 bytes
pub record Form (bytes cs : List ℕ) : Type 0 where
  pub shows : Styled bytes cs
  pub short : length bytes ≤ 512

-- both forms show the same
abbrev pub PromptFine : List ℕ → List ℕ → Type 0
PromptFine raw styled = (cs : List ℕ) × Form raw cs × Form styled cs

-- what a form shows
pub record Shown (bytes visible : List ℕ) : Type 0 where
  pub characters : List ℕ
  pub form : Form bytes characters
  pub written : visible ≡ encodes characters

-- a form is shown, and anything else refused
abbrev pub ShowsForm : List ℕ → Result (Buffer 512) Refusal → Type 0
ShowsForm bytes (Ok visible) = Shown bytes (contents visible)
ShowsForm bytes (Err e) = (e ≡ refusal.Prompt) × ((cs : List ℕ) → Form bytes cs → ⊥)
