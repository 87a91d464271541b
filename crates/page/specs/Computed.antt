-- Tests of texts that compute: what a styled text shows. Assumes nothing.
use Rattle.std.specs.Prelude.{ℕ, Bool, false, cond, List, [], ◌∷◌, Some, None, Option, ◌==◌}
use Rattle.layout.specs.declared.measure.EscapeSequence.{EscapeSequence}
use Rattle.layout.specs.declared.measure.EscapeSequence.TheVariants.{Begun, Inside, Outside}
use Rattle.std.specs.Option.{option_map}
use Rattle.std.specs.Str.{chars, bytes_eq}
use Rattle.text.specs.Texts.{is_plain}
pub use Rattle.text.specs.Tests.{good_bytes, good_character, spelled_out}

-- what the characters of a styled text show from a point on, by how far a style sequence has come there
abbrev pub shown_from : EscapeSequence → List ℕ → Option (List ℕ)
shown_from Outside [] = Some []
shown_from Outside (c ∷ cs) =
    cond (c == 27) (shown_from Begun cs) (cond (good_character c) (option_map (λ ds. c ∷ ds) (shown_from Outside cs)) None)
shown_from Begun [] = None
shown_from Begun (c ∷ cs) = cond (c == 91) (shown_from Inside cs) None
shown_from Inside [] = None
shown_from Inside (c ∷ cs) =
    cond (is_plain c) (shown_from Inside cs) (cond (c == 109) (shown_from Outside cs) None)

-- the characters that a good styled text shows, none for other bytes
unfoldable pub shown_by : List ℕ → Option (List ℕ)
shown_by bs = cond (spelled_out bs) (shown_from Outside (chars bs)) None

-- whether these are the characters, where there are any
abbrev pub same_characters : Option (List ℕ) → List ℕ → Bool
same_characters None cs = false
same_characters (Some ds) cs = bytes_eq ds cs

-- whether bytes are a good styled text that shows the characters cs
unfoldable pub shows_as : List ℕ → List ℕ → Bool
shows_as bs cs = same_characters (shown_by bs) cs
