-- Matching brackets: what is remembered, and how the partner is lit. Assumes nothing.
use Rattle.std.specs.Prelude.{ℕ, ◌+◌, cond, List, ◌∷◌, ◌++◌, length, take, drop, Some, None, codes, Option, nat_le}
use Rattle.text.specs.Texts.{style}
use Rattle.highlight.specs.declared.brackets.Bracket.{Bracket}
use Rattle.highlight.specs.declared.highlight.CmdKind.{CmdKind}
use Rattle.highlight.specs.declared.highlight.CmdKind.TheVariants.{MoveCursor, Other, ForcedRefresh}
use Rattle.highlight.specs.Brackets.{checked, matching}

-- the bracket that is remembered from a line and a position; a forced refresh forgets it
abbrev pub remembered : CmdKind → List ℕ → ℕ → Option Bracket
remembered MoveCursor line pos = checked line pos
remembered Other line pos = checked line pos
remembered ForcedRefresh line pos = None

-- the bracket to light in a line: the partner of the remembered one; none in a line of one byte or none
abbrev pub to_light : Option Bracket → List ℕ → Option Bracket
to_light None line = None
to_light (Some b) line = cond (nat_le (length line) 1) None (matching line b.at b.byte)

-- a line with one bracket lit: bold and blue before it, and back to normal behind it
abbrev pub lit : List ℕ → Option Bracket → List ℕ
lit line None = line
lit line (Some b) = take b.at line ++ (style (codes "1;34") ++ (b.byte ∷ (style (codes "0") ++ drop (b.at + 1) line)))
