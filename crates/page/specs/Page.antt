-- A page: upper rows, then a block of prompt, line and note. Assumes nothing.
use Rattle.std.specs.Prelude.{◌≡◌, ℕ, suc, ◌+◌, Bool, false, cond, List, [], ◌++◌, take, Some, None, Option}
use Rattle.screen.specs.Screen.{Geometry, Paper, Screen, block, over, place_col, place_row}
use Rattle.screen.specs.declared.cells.Parser.TheVariants.{Ground}
use Rattle.std.specs.Str.{chars}

pub record Page : Type 0 where
  -- the line's bytes, and how many of them stand before the edit position
  pub line : List ℕ
  pub pos : ℕ
  -- the hint or message behind the line
  pub note : Option (List ℕ)
  -- the hint last answered, none once a message came
  pub hint : Option (List ℕ)
  -- whether the highlighter last wanted the line drawn anew
  pub lit : Bool
  -- the rows above the block, and how many
  pub upper : Paper
  pub base : ℕ
  -- the window's top
  pub window : ℕ
  -- whether a finish was accepted
  pub ended : Bool

-- the characters of a note
abbrev pub note_text : Option (List ℕ) → List ℕ
note_text None = []
note_text (Some t) = chars t

-- the characters of prompt, line and note
abbrev pub block_text : List ℕ → Page → List ℕ
block_text prompt p = prompt ++ (chars p.line ++ note_text p.note)

-- the characters before the edit position
abbrev pub front_text : List ℕ → Page → List ℕ
front_text prompt p = prompt ++ chars (take p.pos p.line)

module _ (d : Geometry) (prompt : List ℕ) where
  -- the row of the block's end; its height is one more
  abbrev pub end_row : Page → ℕ
  end_row p = place_row d (block d (block_text prompt p))

  abbrev pub end_col : Page → ℕ
  end_col p = place_col d (block d (block_text prompt p))

  -- the page's place, where the cursor belongs: that of the edit position
  abbrev pub cursor_row : Page → ℕ
  cursor_row p = place_row d (block d (front_text prompt p))

  abbrev pub cursor_col : Page → ℕ
  cursor_col p = place_col d (block d (front_text prompt p))

  -- the cursor's row and column on the screen; after a finish they are column 0 below the block
  abbrev pub screen_row : Page → ℕ
  screen_row p = p.base + cond p.ended (suc (end_row p)) (cursor_row p)

  abbrev pub screen_col : Page → ℕ
  screen_col p = cond p.ended 0 (cursor_col p)

  -- the screen shows the page: above, the upper rows; from there on exactly the block, and below it blanks;
  -- the cursor at the page's place; the window where it belongs; no update held, nothing unfinished
  pub record Shows (p : Page) (s : Screen) : Type 0 where
    pub paper : s.pen.paper ≡ over p.base p.upper (block d (block_text prompt p)).paper
    pub row : s.pen.row ≡ screen_row p
    pub col : s.pen.col ≡ screen_col p
    pub window : s.top ≡ p.window
    pub free : s.held ≡ false
    pub idle : s.parser ≡ Ground
