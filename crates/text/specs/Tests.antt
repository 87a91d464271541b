-- Tests of texts that compute. Assumes nothing.
use Rattle.std.specs.Prelude.{ℕ, Bool, true, not, ◌&&◌, ◌||◌, List, [], ◌∷◌, ◌==◌}
use Rattle.std.proofs.Math.Utf8.{encodes, scalar}
use Rattle.std.specs.Str.{chars, bytes_eq}
use Rattle.text.specs.Characters.{is_control}

-- whether a text may hold a character
abbrev pub good_character : ℕ → Bool
good_character c = scalar c && (c == 10 || not (is_control c))

-- each of some characters
abbrev pub good_characters : List ℕ → Bool
good_characters [] = true
good_characters (c ∷ cs) = good_character c && good_characters cs

-- whether bytes are what their characters are in UTF-8
abbrev pub spelled_out : List ℕ → Bool
spelled_out bs = bytes_eq (encodes (chars bs)) bs

-- whether bytes are a good text
unfoldable pub good_bytes : List ℕ → Bool
good_bytes bs = good_characters (chars bs) && spelled_out bs
