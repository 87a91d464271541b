-- The steps of a walk over a text: a good character, a style sequence, either of them. Assumes nothing.
use Rattle.std.specs.Prelude.{◌≡◌, ℕ, ◌<◌, ◌≤◌, true, List, [], ◌++◌, length, Some, None, Ok, Err, Option, Result, ◌≢◌}
use Rattle.std.specs.Borrow.{Bor}
use Rattle.std.specs.Str.{IsCharBoundary}
use Rattle.std.proofs.Math.Utf8.{encode, encodes}
use Rattle.text.specs.Characters.{Good}
use Rattle.text.specs.Decoding.{Front}
use Rattle.text.specs.Texts.{GoodText, plain, style, Styled, StyledText}
use Rattle.text.specs.declared.decode.Decoded.{Decoded}
use Rattle.text.specs.declared.refusal.Refusal.{Refusal}
use Rattle.text.specs.declared.refusal.Refusal.TheVariants.{Text}

-- a look for a good character at the front
abbrev pub GoodFront : List ℕ → Option Decoded → Type 0
GoodFront bs None = (c : ℕ) (rest : List ℕ) → Good c → bs ≢ encode c ++ rest
GoodFront bs (Some d) = Good d.code × Front bs d

-- so many bytes at the front of a text are a piece of it: a character ends there; no piece is nothing, and then the text is no good text
abbrev pub EndsPiece : List ℕ → ℕ → Type 0
EndsPiece bs n = (n ≤ length bs) × (0 < n → IsCharBoundary bs n) × (n ≡ 0 → 0 < length bs → GoodText bs → ⊥)

-- a look for a style sequence at the front answers what stands behind it
abbrev pub StyleFront : List ℕ → Option (Bor (List ℕ)) → Type 0
StyleFront bs None = (ps rest : List ℕ) → plain ps ≡ true → bs ≢ style ps ++ rest
StyleFront bs (Some rest) = (ps : List ℕ) × (plain ps ≡ true) × (bs ≡ style ps ++ rest.now)

-- a piece at the front of a styled text, what it shows, and what stands behind it
pub record PieceFront (bs shown rest : List ℕ) : Type 0 where
  pub piece : List ℕ
  pub characters : List ℕ
  pub bytes : bs ≡ piece ++ rest
  pub some : 1 ≤ length piece
  pub styled : Styled piece characters
  pub visible : shown ≡ encodes characters
  pub after : StyledText bs → StyledText rest

-- a look for a piece at the front
abbrev pub NextPiece : List ℕ → Option (Bor (List ℕ) × Bor (List ℕ)) → Type 0
NextPiece bs None = 0 < length bs → StyledText bs → ⊥
NextPiece bs (Some p) = PieceFront bs p.0.now p.1.now

-- a step of a walk over the pieces, which a refusal ends
abbrev pub TakesPiece : List ℕ → Option (Result (Bor (List ℕ)) Refusal) → List ℕ → Type 0
TakesPiece bs None rest = (bs ≡ []) × (rest ≡ [])
TakesPiece bs (Some (Ok shown)) rest = PieceFront bs shown.now rest
TakesPiece bs (Some (Err e)) rest = (e ≡ Text) × (StyledText bs → ⊥) × (length rest < length bs)

-- a good styled text for whose visible text there is room
abbrev pub VisibleFits : List ℕ → ℕ → Type 0
VisibleFits bs room = (cs : List ℕ) × Styled bs cs × (length (encodes cs) ≤ room)
