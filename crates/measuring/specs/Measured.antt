-- Where prompt, line and note end, measured one behind the other. Assumes nothing.
use Rattle.std.specs.Prelude.{◌≡◌, ℕ, ◌+◌, ◌*◌, ◌<◌, ◌≤◌, List, ◌++◌, length, take, drop, IfSome, Some, None, Option}
use Rattle.layout.specs.Drawing.{walk_place}
use Rattle.layout.specs.declared.block.Layout.{Layout}
use Rattle.layout.specs.declared.layout.Position.{Position}
use Rattle.measuring.specs.declared.measuring.LineEnds.{LineEnds}
use Rattle.page.specs.Acts.{times}
use Rattle.page.specs.Page.{note_text}
use Rattle.page.specs.Rules.{AtBoundary, OneCharacter}
use Rattle.screen.specs.Places.{place_of, top_left}
use Rattle.screen.specs.Screen.{Geometry, block, full, place_row}
use Rattle.std.specs.Str.{chars}
use Rattle.terminal.specs.Windows.{geometry}
use Rattle.terminal.specs.declared.size.Size.{Size}
use Rattle.text.specs.Characters.{AllGood}
use Rattle.text.specs.Texts.{GoodText}

-- where a good text ends that is drawn from a place, and how many rows it takes at most
pub record Walks (w : ℕ → ℕ) (cols : ℕ) (p : Position) (text : List ℕ) (r : Option Position) : Type 0 where
  pub reached : 2 ≤ cols → GoodText text → p.row + length text ≤ 65535 → r ≡ Some (walk_place cols w (chars text) p)
  pub rows : IfSome r (λ q. q.row ≤ p.row + length text)

-- the same for a text that comes so many times
pub record Repeats (w : ℕ → ℕ) (cols : ℕ) (p : Position) (text : List ℕ) (n : ℕ) (r : Option Position) : Type 0 where
  pub reached : 2 ≤ cols → GoodText text → p.row + n * length text ≤ 65535 → r ≡ Some (walk_place cols w (chars (times n text)) p)
  pub rows : IfSome r (λ q. q.row ≤ p.row + n * length text)

-- the places of a line behind a prompt of the characters ps, from the block's start
pub record EndsFor (w : ℕ → ℕ) (cols : ℕ) (ps line : List ℕ) (pos : ℕ) (e : LineEnds) : Type 0 where
  pub cursor : e.cursor ≡ walk_place cols w (ps ++ chars (take pos line)) top_left
  pub end : e.end ≡ walk_place cols w (ps ++ chars line) top_left
  pub low : e.end.row ≤ 5000

-- there are places, and they are the line's
abbrev pub Gives : (ℕ → ℕ) → ℕ → List ℕ → List ℕ → ℕ → Option LineEnds → Type 0
Gives w cols ps line pos (Some e) = EndsFor w cols ps line pos e
Gives w cols ps line pos None = ⊥

-- a prompt of at most 512 rows ends at the place p
pub record PromptAt (w : ℕ → ℕ) (cols : ℕ) (ps : List ℕ) (p : Position) : Type 0 where
  pub wide : 2 ≤ cols
  pub place : p ≡ walk_place cols w ps top_left
  pub low : p.row ≤ 512

-- a good line of at most 4,096 bytes is measured
abbrev pub Measures : (ℕ → ℕ) → ℕ → Position → List ℕ → ℕ → Option LineEnds → Type 0
Measures w cols p line pos r =
    (ps : List ℕ) → PromptAt w cols ps p → GoodText line → length line ≤ 4096 → AtBoundary line pos → Gives w cols ps line pos r

-- and so is a line with a character put in
abbrev pub Inserts : (ℕ → ℕ) → ℕ → Position → List ℕ → ℕ → List ℕ → ℕ → Option LineEnds → Type 0
Inserts w cols p line pos text n r =
    (ps : List ℕ) → PromptAt w cols ps p → GoodText line → length line + n * length text ≤ 4096 → AtBoundary line pos → OneCharacter text
    → Gives w cols ps (take pos line ++ (times n text ++ drop pos line)) (pos + n * length text) r

-- a layout has the places of three texts, from the block's start, and tells whether the last ends on a full row
pub record Laid (d : Geometry) (ps fs ts : List ℕ) (l : Layout) : Type 0 where
  pub prompt : l.prompt_size ≡ place_of d (block d ps)
  pub cursor : l.cursor ≡ place_of d (block d fs)
  pub end : l.end ≡ place_of d (block d ts)
  pub full : l.full ≡ full d (block d ts)

-- the layout of three texts, or none where the last is higher than the window
abbrev pub LaysText : Geometry → List ℕ → List ℕ → List ℕ → Option Layout → Type 0
LaysText d ps fs ts (Some l) = (place_row d (block d ts) < d.rows) × Laid d ps fs ts l
LaysText d ps fs ts None = d.rows ≤ place_row d (block d ts)

-- a note is a good text of at most 1,024 bytes
abbrev pub NoteFine : Option (List ℕ) → Type 0
NoteFine None = Unit {0}
NoteFine (Some t) = GoodText t × (length t ≤ 1024)

-- the layout of prompt, line and note
abbrev pub Computes : (ℕ → ℕ) → Size → Position → LineEnds → Option (List ℕ) → Option Layout → Type 0
Computes w z p e note r =
    (ps line : List ℕ) (pos : ℕ) → AllGood ps → PromptAt w z.cols ps p → GoodText line → AtBoundary line pos → EndsFor w z.cols ps line pos e → NoteFine note
    → LaysText (geometry w z) ps (ps ++ chars (take pos line)) (ps ++ (chars line ++ note_text note)) r
