-- Places of the line that the layout tells. Assumes nothing.
use Rattle.std.specs.Prelude.{◌≡◌, ℕ, ◌-◌, cond, List, [], ◌++◌, take, IfSome, Option, Result}
use Rattle.judging.specs.Judgements.{InsertJudged, JudgesInsert, Judged, Low, PlacedFor}
use Rattle.layout.specs.Drawing.{walk_place}
use Rattle.layout.specs.declared.block.Layout.{Layout}
use Rattle.layout.specs.declared.layout.Position.{Position}
use Rattle.lines.specs.Lines.{line_of}
use Rattle.judging.specs.declared.judging.Placed.{Placed}
use Rattle.page.specs.Rules.{Needs, NothingElse}
use Rattle.screen.specs.Places.{top_left}
use Rattle.session.specs.Sessions.{Sound, prompt_of}
use Rattle.session.specs.Typing.{ColumnsOf}
use Rattle.session.specs.declared.session.Session.{Session}
use Rattle.session.specs.declared.standing.Standing.TheVariants.{Open}
use Rattle.session.specs.declared.tables.Tables.{Tables}
use Rattle.std.specs.Str.{chars}
use Rattle.terminal.specs.Windows.{geometry}
use Rattle.text.specs.declared.refusal.Refusal.{Refusal}
use Rattle.text.specs.declared.refusal.Refusal.TheVariants.{Tall}

-- where a block's text ends, a full row not counting as the next
abbrev pub text_end : ℕ → Layout → Position
text_end cols l = cond l.full (record { col = cols; row = l.end.row - 1 }) l.end

-- the layout of a session, with the places where its line ends
abbrev pub placed_at : Position → Position → Session → Placed
placed_at c e s = record { ends = record { cursor = c; end = e }; layout = s.layout }

-- a line that the window holds, and how it is placed
abbrev pub Stood : (ℕ → ℕ) → Session → Tables → Placed → Type 0
Stood w s b e = Low (geometry w s.size) (prompt_of b) (line_of b.line) [] × PlacedFor w s.size (prompt_of b) (line_of b.line) b.line.pos e

-- what a session that belongs to its tables tells of the line's places
abbrev pub Knows : (ℕ → ℕ) → Session → Tables → Option Placed → Type 0
Knows w s b r = s.begun ≡ s.size → Sound w s b → IfSome r (Stood w s b)

-- the line as it is: refused exactly where it is higher than the window
abbrev pub JudgesHeight : (ℕ → ℕ) → Session → Tables → Result Placed Refusal → Type 0
JudgesHeight w s b r =
    s.begun ≡ s.size → Sound w s b
    → Judged (Needs (Low (geometry w s.size) (prompt_of b) (line_of b.line) []) Tall NothingElse) (PlacedFor w s.size (prompt_of b) (line_of b.line) b.line.pos) r

-- a place is where the line before the edit position ends
abbrev pub Fronts : (ℕ → ℕ) → Session → Tables → Position → Type 0
Fronts w s b p = p ≡ walk_place s.size.cols w (prompt_of b ++ chars (take b.line.pos (line_of b.line))) top_left

-- a character put into the line so many times
abbrev pub JudgesWalked : (ℕ → ℕ) → Session → Tables → List ℕ → ℕ → Result Placed Refusal → Type 0
JudgesWalked w s b t n r = s.begun ≡ s.size → Sound w s b → InsertJudged w s.size (prompt_of b) (line_of b.line) b.line.pos t n r

-- a character of so many columns put in, on a session whose screen is known
abbrev pub JudgesTyped : (ℕ → ℕ) → Session → Tables → List ℕ → ℕ → ℕ → Result Placed Refusal → Type 0
JudgesTyped w s b t n width r = ColumnsOf w t width → s.standing ≡ Open → JudgesWalked w s b t n r

-- a character put in there
abbrev pub JudgesPut : (ℕ → ℕ) → Session → Tables → Position → List ℕ → ℕ → Result Placed Refusal → Type 0
JudgesPut w s b p t n r = Sound w s b → Fronts w s b p → JudgesInsert w s.prompt s.size (line_of b.line) b.line.pos t n r
