-- What acts do to a page and what they write, at five columns by the Latin table behind the prompt `> `, whatever hinter and highlighter answer. Assumes nothing.
use Rattle.std.specs.Prelude.{◌≡◌, ℕ, Bool, true, false, List, [], ◌∷◌, ◌++◌, Some, None, Option, codes}
use Rattle.page.specs.Acts.{Act, Replies, clear, create, finish, go, insert, message, notice, page_after, refresh, set}
use Rattle.page.specs.Output.{direct, writes}
use Rattle.page.specs.Page.{Page, block_text, screen_col, screen_row}
use Rattle.screen.specs.Screen.{Geometry, Screen, blank_paper, blank_screen}
use Rattle.screen.specs.declared.cells.Cell.TheVariants.{Glyph}
use Rattle.screen.specs.declared.cells.Parser.TheVariants.{Ground}
use Rattle.widths.specs.Widths.{latin}
use Rattle.worked.specs.Places.{five_columns}
use Rattle.worked.specs.Writes.{created, gone, next, plainly, set_to}

-- what was answered: the hint, whether the line is to be drawn anew, and the styled line and note
abbrev pub answers : Option (List ℕ) → Bool → List ℕ → List ℕ → Replies
answers hint anew line note = record { hint = hint; yes = anew; prompt = codes "> "; line = line; note = note }

-- a hint and no wish to draw anew
abbrev pub hinting : List ℕ → Replies
hinting t = answers (Some t) false [] []

-- no hint, and a wish to draw anew
abbrev pub lighting : Replies
lighting = answers None true [] []

-- a window of 5 columns by so many rows
abbrev pub high : ℕ → Geometry
high n = record { width = latin; cols = 5; rows = n }

-- the cursor in row 5, the window's top in row 3
abbrev pub lower_screen : Screen
lower_screen = record { pen = record { paper = blank_paper; row = 5; col = 0; join = None }; top = 3; held = false; parser = Ground }

-- the page after an accepted act, by what was answered
abbrev pub asked : Replies → Act → Page → Page
asked r a p = page_after (five_columns latin) (codes "> ") blank_screen a r true p

-- the same in a window of so many rows, from the lower screen
abbrev pub asked_low : ℕ → Replies → Act → Page → Page
asked_low n r a p = page_after (high n) (codes "> ") lower_screen a r true p

-- what an act writes, by whether updates are held and whether the session was torn
abbrev pub wrote : Bool → Bool → Replies → Act → Page → List (List ℕ)
wrote holds torn r a p = writes (five_columns latin) (codes "> ") holds torn a r p (asked r a p)

-- whether an insert is written by itself
abbrev pub directly : Replies → List ℕ → ℕ → Page → Bool
directly r c n p = direct (five_columns latin) (codes "> ") c n r p (asked r (insert c n) p)

-- home and erase
abbrev pub cleared : List ℕ
cleared = 27 ∷ codes "[H" ++ (27 ∷ codes "[J")

-- an update is held, and let go
abbrev pub hold : List ℕ
hold = 27 ∷ codes "[?2026h"

abbrev pub release : List ℕ
release = 27 ∷ codes "[?2026l"

-- the prompt alone, the cursor behind it
abbrev pub prompt_drawn : List ℕ
prompt_drawn = codes "> " ++ (13 ∷ 27 ∷ codes "[2C")

-- the cursor's row erased
abbrev pub row_erased : List ℕ
row_erased = 13 ∷ 27 ∷ codes "[K"

module _ (p : Page) where
  -- the line `abc`, the edit position behind the `a`
  abbrev pub middle : Page
  middle = next (set (codes "abc") 1) (created p)

  -- the line `a`, the edit position at its end
  abbrev pub short : Page
  short = next (set (codes "a") 1) (created p)

  -- the same with the hint `d`
  abbrev pub hinted : Page
  hinted = asked (hinting (codes "d")) (set (codes "a") 1) (created p)

  -- the same, to be drawn anew
  abbrev pub lit : Page
  lit = asked lighting (set (codes "a") 1) (created p)

  -- with the message `m`
  abbrev pub told : Page
  told = asked (answers None false [] []) (message (codes "m")) (hinted)

  -- the hint gone with a go
  abbrev pub unhinted : Page
  unhinted = asked lighting (go 0) hinted

  -- the rows of a notice above
  abbrev pub noticed : Page
  noticed = next (notice (codes "x")) unhinted

  -- line and position: an insert stands at the position, which follows all of it; a set takes both
  pub record WorkedLines : Type 0 where
    pub inserted-line : (next (insert (codes "X") 2) middle).line ≡ codes "aXXbc"
    pub inserted-pos : (next (insert (codes "X") 2) middle).pos ≡ 3
    pub set-line : (next (set (codes "de") 1) middle).line ≡ codes "de"
    pub set-pos : (next (set (codes "de") 1) middle).pos ≡ 1
    pub go-line : (next (go 3) middle).line ≡ codes "abc"
    pub go-pos : (next (go 3) middle).pos ≡ 3
    pub created-line : (next create middle).line ≡ []

  -- notes: a hint that the window does not hold is none; a message puts the hint away; a go that draws anew drops the note and keeps the hint, one that stays alters nothing; a notice brings the hint back
  pub record WorkedNotes : Type 0 where
    pub hint-shown : hinted.note ≡ Some (codes "d")
    pub hint-kept : hinted.hint ≡ Some (codes "d")
    pub hint-first : (asked (hinting (codes "d")) create p).note ≡ Some (codes "d")
    pub hint-low : (asked_low 1 (hinting (codes "b")) (set (codes "a") 1) (created p)).note ≡ Some (codes "b")
    pub hint-tall : (asked_low 1 (hinting (codes "bc")) (set (codes "a") 1) (created p)).note ≡ None
    pub hint-tall-kept : (asked_low 1 (hinting (codes "bc")) (set (codes "a") 1) (created p)).hint ≡ None
    pub insert-drops : (next (insert (codes "b") 1) told).note ≡ None
    pub message-shown : told.note ≡ Some (codes "m")
    pub message-hint : told.hint ≡ None
    pub message-behind : block_text (codes "> ") told ≡ codes "> am"
    pub message-lit : (asked lighting (message (codes "m")) short).lit ≡ true
    pub go-keeps : (next (go 0) hinted).note ≡ Some (codes "d")
    pub go-drops : unhinted.note ≡ None
    pub go-hint : unhinted.hint ≡ Some (codes "d")
    pub go-lit : (next (go 0) (asked (answers (Some (codes "d")) true [] []) (set (codes "a") 1) (created p))).note ≡ None
    pub go-stays : asked lighting (go 1) hinted ≡ hinted
    pub notice-note : noticed.note ≡ Some (codes "d")
    pub notice-message : (next (notice (codes "x")) told).note ≡ None
    pub notice-lit : (next (notice (codes "x")) lit).lit ≡ true

  -- rows: a notice takes one more than its LFs, but one at its end makes none; a create begins in the cursor's row, a clear in the window's first; the window follows the block's end, and after a finish the row below
  pub record WorkedRows : Type 0 where
    pub notice-base : noticed.base ≡ 1
    pub notice-cell : noticed.upper 0 0 ≡ Glyph 120 None
    pub notice-closed : (next (notice (120 ∷ 10 ∷ [])) short).base ≡ 1
    pub notice-two : (next (notice (120 ∷ 10 ∷ 121 ∷ [])) short).base ≡ 2
    pub create-base : (asked_low 24 lighting create p).base ≡ 5
    pub create-window : (asked_low 24 lighting create p).window ≡ 3
    pub create-follows : (asked_low 2 lighting create p).window ≡ 4
    pub clear-base : (asked_low 24 lighting clear short).base ≡ 3
    pub clear-window : (asked_low 24 lighting clear short).window ≡ 3
    pub set-follows : (asked_low 2 lighting (set (codes "abcdefgh") 0) (created p)).window ≡ 1
    pub finish-follows : (asked_low 1 lighting finish (created p)).window ≡ 1
    pub finish-ends : (next finish (gone p)).ended ≡ true
    pub finish-row : screen_row (five_columns latin) (codes "> ") (next finish (gone p)) ≡ 2
    pub finish-col : screen_col (five_columns latin) (codes "> ") (next finish (gone p)) ≡ 0
    pub finish-breaks : page_after (five_columns latin) (codes "> ") blank_screen finish lighting false p ≡ p
    pub row-below : screen_row (five_columns latin) (codes "> ") noticed ≡ 1

  -- an insert is written by itself where it is one letter at the line's end that leaves the row open, with no note and nothing lit before or after
  pub record WorkedInserts : Type 0 where
    pub letter : directly (plainly []) (codes "b") 1 short ≡ true
    pub several : directly (plainly []) (codes "b") 2 short ≡ false
    pub fills : directly (plainly []) (codes "c") 1 (next (set (codes "ab") 2) (created p)) ≡ false
    pub mark : directly (plainly []) (204 ∷ 129 ∷ []) 1 short ≡ false
    pub inside : directly (plainly []) (codes "c") 1 (next (set (codes "a") 0) (created p)) ≡ false
    pub under-note : directly (plainly []) (codes "b") 1 told ≡ false
    pub hint-comes : directly (hinting (codes "h")) (codes "b") 1 short ≡ false
    pub lit-now : directly lighting (codes "b") 1 short ≡ false
    pub lit-before : directly (plainly []) (codes "b") 1 lit ≡ false

  -- writes: a held update stands between its marks; a clear of a torn session lets go first; a notice is closed by one LF; a finish goes to the block's end, if it is not there; a go writes nothing, a move or the block
  pub record WorkedOutput : Type 0 where
    pub create-held : wrote true false (plainly []) create p ≡ hold ∷ (row_erased ++ prompt_drawn) ∷ release ∷ []
    pub create-free : wrote false false (plainly []) create p ≡ (row_erased ++ prompt_drawn) ∷ []
    pub refresh-held : wrote true false (plainly []) refresh (created p) ≡ hold ∷ (row_erased ++ prompt_drawn) ∷ release ∷ []
    pub clear-held : wrote true false (plainly []) clear (created p) ≡ cleared ∷ hold ∷ (row_erased ++ prompt_drawn) ∷ release ∷ []
    pub clear-torn : wrote true true (plainly []) clear (created p) ≡ release ∷ cleared ∷ hold ∷ (row_erased ++ prompt_drawn) ∷ release ∷ []
    pub clear-free : wrote false true (plainly []) clear (created p) ≡ cleared ∷ (row_erased ++ prompt_drawn) ∷ []
    pub notice-held : wrote true false (plainly []) (notice (codes "x")) (created p) ≡ hold ∷ row_erased ∷ codes "x" ∷ (10 ∷ []) ∷ prompt_drawn ∷ release ∷ []
    pub notice-closed : wrote false false (plainly []) (notice (120 ∷ 10 ∷ [])) (created p) ≡ row_erased ∷ (120 ∷ 10 ∷ []) ∷ prompt_drawn ∷ []
    pub message-drawn : wrote false false (answers None false (codes "a") (codes "m")) (message (codes "m")) short ≡ (row_erased ++ (codes "> am" ++ (13 ∷ 27 ∷ codes "[3C"))) ∷ []
    pub go-stays : wrote false false lighting (go 1) short ≡ []
    pub go-moves : wrote false false (plainly []) (go 0) short ≡ (27 ∷ codes "[D") ∷ []
    pub go-draws : wrote false false (answers None true (codes "a") []) (go 0) short ≡ (row_erased ++ (codes "> a" ++ (13 ∷ 27 ∷ codes "[2C"))) ∷ []
    pub go-lit : wrote false false (plainly (codes "a")) (go 0) lit ≡ (row_erased ++ (codes "> a" ++ (13 ∷ 27 ∷ codes "[2C"))) ∷ []
    pub finish-there : wrote true false (plainly []) finish (created p) ≡ (10 ∷ []) ∷ []
    pub finish-in-row : wrote true false (plainly []) finish (next (go 0) short) ≡ (27 ∷ codes "[C") ∷ (10 ∷ []) ∷ []
    pub finish-below : wrote true false (plainly []) finish (gone p) ≡ (27 ∷ codes "[B" ++ (27 ∷ codes "[D")) ∷ (10 ∷ []) ∷ []
    pub refresh-end : wrote false false (answers None false (codes "abc") []) refresh (set_to p) ≡ (13 ∷ 27 ∷ codes "[K" ++ (27 ∷ codes "[A" ++ (13 ∷ 27 ∷ codes "[K> abc" ++ (10 ∷ 13 ∷ [])))) ∷ []
    pub insert-alone : wrote true false (plainly []) (insert (codes "b") 1) short ≡ codes "b" ∷ []

  -- the examples of this file
  pub record WorkedPages : Type 0 where
    pub lines : WorkedLines
    pub notes : WorkedNotes
    pub rows : WorkedRows
    pub inserts : WorkedInserts
    pub output : WorkedOutput
