-- A text behind a style sequence of 256 bytes. Assumes nothing.
use Rattle.std.specs.Prelude.{ℕ, List, ◌++◌, replicate}
use Rattle.text.specs.Texts.{style}

-- the sequence: ESC, [, 253 zeros and m
abbrev pub padding : List ℕ
padding = style (replicate 253 48)

-- the sequence, and then the text
abbrev pub padded : List ℕ → List ℕ
padded text = padding ++ text
