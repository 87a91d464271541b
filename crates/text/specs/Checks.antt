-- What the checks of texts answer. Assumes nothing.
use Rattle.std.specs.Prelude.{◌≡◌, ℕ, ◌<◌, ◌≤◌, ◌⊎◌, List, length, take, drop, Ok, Err, Result}
use Rattle.std.proofs.Math.Utf8.{encodes}
use Rattle.text.specs.Texts.{GoodText, Styled, StyledText}
use Rattle.text.specs.declared.refusal.Refusal.{Refusal}
use Rattle.text.specs.declared.refusal.Refusal.TheVariants.{Text, Long, Prompt}

-- a good text is accepted, and any other is refused as text
abbrev pub ChecksText : List ℕ → Result (Unit {0}) Refusal → Type 0
ChecksText bs (Ok _) = GoodText bs
ChecksText bs (Err e) = (e ≡ Text) × (GoodText bs → ⊥)

-- a good text of at most a number of bytes is accepted; any other text is refused as text, and a longer one as too long
abbrev pub ChecksWithin : List ℕ → ℕ → Result (Unit {0}) Refusal → Type 0
ChecksWithin bs max (Ok _) = GoodText bs × (length bs ≤ max)
ChecksWithin bs max (Err e) = ((e ≡ Text) × (GoodText bs → ⊥)) ⊎ ((e ≡ Long) × GoodText bs × (max < length bs))

-- of a good styled text the length of its visible text, and any other is refused as text
abbrev pub ChecksStyled : List ℕ → Result ℕ Refusal → Type 0
ChecksStyled bs (Ok n) = (cs : List ℕ) × Styled bs cs × (n ≡ length (encodes cs))
ChecksStyled bs (Err e) = (e ≡ Text) × (StyledText bs → ⊥)

-- the visible text of n bytes stands at the front of a buffer, and the rest of the buffer is as it was
pub record Copied (bs old new : List ℕ) (n : ℕ) : Type 0 where
  pub characters : List ℕ
  pub styled : Styled bs characters
  pub count : n ≡ length (encodes characters)
  pub written : take n new ≡ encodes characters
  pub kept : drop n new ≡ drop n old

-- the visible text is written; or the buffer is as it was, and the text is refused as text if it is not good, else as too long for the buffer
abbrev pub GivesVisible : List ℕ → List ℕ → List ℕ → Result ℕ Refusal → Type 0
GivesVisible bs old new (Ok n) = Copied bs old new n
GivesVisible bs old new (Err e) = (new ≡ old) × (((e ≡ Text) × (StyledText bs → ⊥)) ⊎ ((e ≡ Long) × ((cs : List ℕ) × Styled bs cs × (length old < length (encodes cs)))))

-- the visible text of a good styled text of at most a number of bytes is written; any other is refused as a prompt, and the buffer is as it was
abbrev pub ShowsPrompt : ℕ → List ℕ → List ℕ → List ℕ → Result ℕ Refusal → Type 0
ShowsPrompt max bs old new (Ok n) = (length bs ≤ max) × (n ≤ max) × Copied bs old new n
ShowsPrompt max bs old new (Err e) = (e ≡ Prompt) × (new ≡ old) × (length bs ≤ max → StyledText bs → ⊥)
