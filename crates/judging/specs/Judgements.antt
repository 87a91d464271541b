-- When a line, an insert or a message is refused behind a prompt in a window, and what is measured on the way. Assumes nothing.
use Rattle.std.specs.Prelude.{◌≡◌, ℕ, ◌+◌, ◌*◌, ◌<◌, ◌≤◌, List, [], ◌++◌, length, take, drop, Some, None, Ok, Err, Option, Result}
use Rattle.judging.specs.declared.judging.Placed.{Placed}
use Rattle.layout.specs.declared.block.Layout.{Layout}
use Rattle.layout.specs.declared.layout.Position.{Position}
use Rattle.measuring.specs.Measured.{EndsFor, Laid, PromptAt}
use Rattle.measuring.specs.declared.measuring.LineEnds.{LineEnds}
use Rattle.page.specs.Acts.{times}
use Rattle.page.specs.Page.{note_text}
use Rattle.page.specs.Rules.{AtBoundary, OneCharacter, Needs, NothingElse, refused_by}
use Rattle.screen.specs.Screen.{Geometry, block, place_row}
use Rattle.std.specs.Str.{chars}
use Rattle.terminal.specs.Windows.{geometry}
use Rattle.terminal.specs.declared.size.Size.{Size}
use Rattle.text.specs.Characters.{AllGood}
use Rattle.text.specs.Texts.{GoodText}
use Rattle.text.specs.declared.refusal.Refusal.{Refusal}
use Rattle.text.specs.declared.refusal.Refusal.TheVariants.{Long, Place, Tall, Text}

-- prompt, line and note are not higher than the window
abbrev pub Low : Geometry → List ℕ → List ℕ → List ℕ → Type 0
Low d ps line note = place_row d (block d (ps ++ (chars line ++ chars note))) < d.rows

-- a prompt of good characters ends at a place
pub record Behind (w : ℕ → ℕ) (z : Size) (ps : List ℕ) (p : Position) : Type 0 where
  pub good : AllGood ps
  pub prompt : PromptAt w z.cols ps p

-- where a line ends behind a prompt, and its layout without a note
pub record PlacedFor (w : ℕ → ℕ) (z : Size) (ps line : List ℕ) (pos : ℕ) (e : Placed) : Type 0 where
  pub ends : EndsFor w z.cols ps line pos e.ends
  pub laid : Laid (geometry w z) ps (ps ++ chars (take pos line)) (ps ++ (chars line ++ note_text None)) e.layout

-- what an accepted judgement tells
abbrev pub Tells : {A : Type 0} → (A → Type 0) → Result A Refusal → Type 0
Tells P (Ok x) = P x
Tells P (Err e) = Unit {0}

-- a judgement: refused by the rule, and accepted with what it tells
pub record Judged {A : Type 0} (rule : Option Refusal → Type 0) (P : A → Type 0) (r : Result A Refusal) : Type 0 where
  pub refuses : rule (refused_by r)
  pub tells : Tells P r

-- a line by where it ends, judged by the height
abbrev pub Holding : (ℕ → ℕ) → Position → Size → Option LineEnds → Result Placed Refusal → Type 0
Holding w p z None r = r ≡ Err Tall
Holding w p z (Some e) r =
    (ps line : List ℕ) (pos : ℕ) → Behind w z ps p → GoodText line → AtBoundary line pos → EndsFor w z.cols ps line pos e
    → Judged (Needs (Low (geometry w z) ps line []) Tall NothingElse) (PlacedFor w z ps line pos) r

-- the line as it is: refused exactly where it is higher than the window
abbrev pub JudgesLine : (ℕ → ℕ) → Position → Size → List ℕ → ℕ → Result Placed Refusal → Type 0
JudgesLine w p z line pos r =
    (ps : List ℕ) → Behind w z ps p → Judged (Needs (Low (geometry w z) ps line []) Tall NothingElse) (PlacedFor w z ps line pos) r

-- another line and position
abbrev pub JudgesSet : (ℕ → ℕ) → Position → Size → List ℕ → ℕ → Result Placed Refusal → Type 0
JudgesSet w p z line pos r =
    (ps : List ℕ) → Behind w z ps p
    → Judged (Needs (GoodText line) Text (Needs (length line ≤ 4096) Long (Needs (AtBoundary line pos) Place (Needs (Low (geometry w z) ps line []) Tall NothingElse)))) (PlacedFor w z ps line pos) r

-- a line with a character put in so many times before a position
abbrev pub inserted : List ℕ → ℕ → List ℕ → ℕ → List ℕ
inserted line pos t n = take pos line ++ (times n t ++ drop pos line)

-- a character put in, behind a prompt
abbrev pub InsertJudged : (ℕ → ℕ) → Size → List ℕ → List ℕ → ℕ → List ℕ → ℕ → Result Placed Refusal → Type 0
InsertJudged w z ps line pos t n =
    Judged (Needs (OneCharacter t) Text (Needs (length line + n * length t ≤ 4096) Long (Needs (Low (geometry w z) ps (inserted line pos t n) []) Tall NothingElse))) (PlacedFor w z ps (inserted line pos t n) (pos + n * length t))

abbrev pub JudgesInsert : (ℕ → ℕ) → Position → Size → List ℕ → ℕ → List ℕ → ℕ → Result Placed Refusal → Type 0
JudgesInsert w p z line pos t n r = (ps : List ℕ) → Behind w z ps p → InsertJudged w z ps line pos t n r

-- a message below the line, with the layout that it gives
abbrev pub JudgesMessage : (ℕ → ℕ) → Position → Size → List ℕ → ℕ → List ℕ → Result Layout Refusal → Type 0
JudgesMessage w p z line pos t r =
    (ps : List ℕ) → Behind w z ps p
    → Judged (Needs (GoodText t) Text (Needs (length t ≤ 1024) Long (Needs (Low (geometry w z) ps line t) Tall NothingElse))) (Laid (geometry w z) ps (ps ++ chars (take pos line)) (ps ++ (chars line ++ note_text (Some t)))) r
