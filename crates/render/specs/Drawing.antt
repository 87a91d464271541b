-- The bytes that draw and erase a block, by its layout and its texts. Assumes nothing.
use Rattle.std.specs.Prelude.{◌≡◌, ℕ, ◌-◌, ◌≤◌, Bool, true, List, [], ◌∷◌, ◌++◌, length, Some, None, Option, Result}
use Rattle.layout.specs.declared.block.Layout.{Layout}
use Rattle.lines.specs.Lines.{line_of}
use Rattle.lines.specs.Notes.{note_of}
use Rattle.lines.specs.Prompts.{raw_of, styled_of}
use Rattle.lines.specs.declared.line_buffer.LineBuffer.{LineBuffer}
use Rattle.lines.specs.declared.note.Note.{Note}
use Rattle.lines.specs.declared.prompt.Prompt.{Prompt}
use Rattle.page.specs.Law.{Written}
use Rattle.page.specs.Output.{framed}
use Rattle.highlight.specs.declared.highlight.Highlighter.{Ghosts}
use Rattle.render.specs.declared.block.Block.{Block}
use Rattle.std.specs.Option.{option_map}
use denote.Ref.{Bor}
use Rattle.page.specs.declared.outcome.BrokenAct.{BrokenAct}
use Rattle.screen.specs.Output.{closing, erase_bytes, to_column, up_by}
use Rattle.terminal.specs.Answers.{WriteAnswer}

-- a block is erased from its cursor
abbrev pub erase_layout : Layout → List ℕ
erase_layout l = erase_bytes (l.end.row - l.cursor.row) l.end.row

-- the old block, if there is one, is erased
abbrev pub old_rows : Option Layout → List ℕ
old_rows None = []
old_rows (Some l) = erase_layout l

-- from behind a block's text the cursor goes to its place
abbrev pub place_layout : Layout → List ℕ
place_layout l = closing l.full ++ (up_by (l.end.row - l.cursor.row) ++ to_column l.cursor.col)

-- prompt, line and note as they are drawn
pub record Styles : Type 0 where
  pub prompt : List ℕ
  pub line : List ℕ
  pub note : List ℕ

-- one behind the other
abbrev pub styles_bytes : Styles → List ℕ
styles_bytes s = s.prompt ++ (s.line ++ s.note)

-- a block is drawn from the start of a row
abbrev pub draw_layout : Styles → Layout → List ℕ
draw_layout s l = styles_bytes s ++ place_layout l

-- the texts of a block: both forms of the prompt, line and edit position, and the note
pub record Texts : Type 0 where
  pub raw : List ℕ
  pub styled : List ℕ
  pub line : List ℕ
  pub pos : ℕ
  pub note : Option (List ℕ)

-- what a reference points to, if there is one
abbrev pub now_of : {X : Type 0} → Option (Bor X) → Option X
now_of o = option_map (λ r. r.now) o

abbrev pub texts_of : Prompt → LineBuffer → Note → Texts
texts_of p b n = record { raw = raw_of p; styled = styled_of p; line = line_of b; pos = b.pos; note = note_of n }

abbrev pub block_texts : Block → Texts
block_texts b = texts_of b.prompt.now b.line.now b.note.now

-- a note's bytes
abbrev pub note_bytes : Option (List ℕ) → List ℕ
note_bytes None = []
note_bytes (Some t) = t

-- a note as a highlighter answers it
abbrev pub NoteLit : (List ℕ → List ℕ → Type 0) → Option (List ℕ) → List ℕ → Type 0
NoteLit lights None lit = lit ≡ []
NoteLit lights (Some t) lit = lights t lit

-- the texts as they are
pub record Uncoloured (x : Texts) (s : Styles) : Type 0 where
  pub prompt : s.prompt ≡ x.raw
  pub line : s.line ≡ x.line
  pub note : s.note ≡ note_bytes x.note

module _ {H : Type 0} (asked : Ghosts H) where
  -- the texts as a highlighter answers them
  pub record Coloured (h : H) (x : Texts) (s : Styles) : Type 0 where
    pub prompt : asked.lights_prompt h x.styled true s.prompt
    pub line : asked.lights h x.line x.pos s.line
    pub note : NoteLit (asked.lights_hint h) x.note s.note

  -- with colours, as a highlighter answers them, or without
  abbrev pub StyledTexts : Option H → Texts → Styles → Type 0
  StyledTexts None x s = Uncoloured x s
  StyledTexts (Some h) x s = Coloured h x s

-- an allowed answer of at most so many bytes stands behind what was composed
pub record Appends (allows : List ℕ → Type 0) (limit : ℕ) (before after : List ℕ) : Type 0 where
  pub answer : List ℕ
  pub allowed : allows answer
  pub short : length answer ≤ limit
  pub bytes : after ≡ before ++ answer

-- texts of at most so many bytes stand behind what was composed
pub record AppendsTexts (allows : Styles → Type 0) (limit : ℕ) (before after : List ℕ) : Type 0 where
  pub styles : Styles
  pub styled : allows styles
  pub short : length (styles_bytes styles) ≤ limit
  pub bytes : after ≡ before ++ styles_bytes styles

-- a drawing is composed: the old block is erased, by the first n bytes, and the new one drawn
pub record Composes (allows : Styles → Type 0) (old : Option Layout) (new : Layout) (n : ℕ) (buffer : List ℕ) : Type 0 where
  pub styles : Styles
  pub styled : allows styles
  pub bytes : buffer ≡ old_rows old ++ draw_layout styles new
  pub short : length buffer ≤ 7817
  pub erased : n ≡ length (old_rows old)

-- a drawing is composed and written, in a held update or without one
pub record Drew {T : Type 0} (answered : T → List ℕ → WriteAnswer → T → Type 0) (allows : Styles → Type 0) (old : Option Layout) (new : Layout) (holds : Bool) (before : T) (r : Result Unit BrokenAct) (after : T) (buffer : List ℕ) : Type 0 where
  pub styles : Styles
  pub styled : allows styles
  pub bytes : buffer ≡ old_rows old ++ draw_layout styles new
  pub short : length buffer ≤ 7817
  pub written : Written answered before (framed holds ((old_rows old ++ draw_layout styles new) ∷ [])) r after
