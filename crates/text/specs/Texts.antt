-- Good texts, style sequences and visible text. A text is its bytes. Assumes nothing.
use Rattle.std.specs.Prelude.{◌≡◌, ℕ, Bool, true, ◌&&◌, ◌||◌, List, [], ◌∷◌, ◌++◌, ◌==◌, nat_le}
use Rattle.std.proofs.Math.Utf8.{encode, encodes}
use Rattle.text.specs.Characters.{Good, AllGood}

-- the bytes are the characters cs in UTF-8, no control among them but LF
abbrev pub Spells : List ℕ → List ℕ → Type 0
Spells bs cs = AllGood cs × (encodes cs ≡ bs)

-- a good text: UTF-8 with no control but LF
abbrev pub GoodText : List ℕ → Type 0
GoodText bs = (cs : List ℕ) × Spells bs cs

-- a digit or a semicolon
abbrev pub is_plain : ℕ → Bool
is_plain b = (nat_le 48 b && nat_le b 57) || b == 59

-- digits and semicolons only
abbrev pub plain : List ℕ → Bool
plain [] = true
plain (b ∷ bs) = is_plain b && plain bs

-- a style sequence: ESC, [, digits and semicolons, m
abbrev pub style : List ℕ → List ℕ
style ps = 27 ∷ 91 ∷ (ps ++ (109 ∷ []))

-- a good styled text, and the characters that it shows: good characters, with style sequences between them
pub data Styled : List ℕ → List ℕ → Type 0 where
  ends : Styled [] []
  shows : (c : ℕ) {bs cs : List ℕ} → Good c → Styled bs cs → Styled (encode c ++ bs) (c ∷ cs)
  dyes : (ps : List ℕ) {bs cs : List ℕ} → plain ps ≡ true → Styled bs cs → Styled (style ps ++ bs) cs

-- a good styled text; its visible text is the UTF-8 of the characters that it shows
abbrev pub StyledText : List ℕ → Type 0
StyledText bs = (cs : List ℕ) × Styled bs cs
