-- A letter written by itself. Assumes nothing.
use Rattle.std.specs.Prelude.{◌≡◌, ℕ, ◌+◌, Bool, not, ◌&&◌, List, [], ◌∷◌, length, is_some, Result, ◌==◌, nat_lt}
use Rattle.layout.specs.declared.block.Layout.{Layout}
use Rattle.lines.specs.Lines.{line_of}
use Rattle.lines.specs.Notes.{note_of}
use Rattle.page.specs.Law.{Written}
use Rattle.page.specs.Rules.{OneCharacter}
use Rattle.page.specs.declared.outcome.BrokenAct.{BrokenAct}
use Rattle.session.specs.Painting.{drawn_to}
use Rattle.session.specs.declared.session.Session.{Session}
use Rattle.session.specs.declared.tables.Tables.{Tables}
use Rattle.std.specs.Str.{chars}
use Rattle.terminal.specs.Answers.{WriteAnswer}
use Rattle.widths.specs.Clusters.{total}

-- once at the end of the line, taking so many columns, within the cursor's row, with no note behind the line
abbrev pub in_row : Session → Tables → ℕ → ℕ → Bool
in_row s b n width =
    (b.line.pos == length (line_of b.line)) && (n == 1
    && (nat_lt 0 width && (nat_lt (s.layout.cursor.col + width) s.size.cols
    && not (is_some (note_of b.note)))))

-- the columns of a character
abbrev pub ColumnsOf : (ℕ → ℕ) → List ℕ → ℕ → Type 0
ColumnsOf w text r = OneCharacter text → r ≡ total w (chars text)

-- a text is written by itself, and the session has another layout from then on
pub record Typed {T : Type 0} (answered : T → List ℕ → WriteAnswer → T → Type 0) (text : List ℕ) (l : Layout) (s : Session) (x : T) (r : Result Unit BrokenAct) (t : Session) (y : T) : Type 0 where
  pub written : Written answered x (text ∷ []) r y
  pub session : t ≡ drawn_to l s r
