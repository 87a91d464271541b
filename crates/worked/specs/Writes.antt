-- What acts write at five columns by the Latin table, the prompt `> `, with no hints and no held updates, from a blank screen. Assumes nothing.
use Rattle.std.specs.Prelude.{◌≡◌, ℕ, true, false, List, [], ◌∷◌, ◌++◌, None, codes}
use Rattle.layout.specs.declared.layout.Position.{Position}
use Rattle.page.specs.Acts.{Act, Replies, create, go, insert, line_after, page_after, refresh, set}
use Rattle.page.specs.Output.{writes}
use Rattle.page.specs.Page.{Page, cursor_col, cursor_row, end_col, end_row}
use Rattle.screen.specs.Screen.{blank_screen}
use Rattle.widths.specs.Widths.{latin}
use Rattle.worked.specs.Places.{five_columns, place}

-- the plain highlighter and the empty hinter answer for a line
abbrev pub plainly : List ℕ → Replies
plainly line = record { hint = None; yes = false; prompt = codes "> "; line = line; note = [] }

-- the page after an act that was accepted
abbrev pub next : Act → Page → Page
next a p = page_after (five_columns latin) (codes "> ") blank_screen a (plainly (line_after a p)) true p

-- what an act writes
abbrev pub written : Act → Page → List (List ℕ)
written a p = writes (five_columns latin) (codes "> ") false false a (plainly (line_after a p)) p (next a p)

-- where a page's block ends
abbrev pub end_of : Page → Position
end_of p = place (end_col (five_columns latin) (codes "> ") p) (end_row (five_columns latin) (codes "> ") p)

-- where the cursor belongs
abbrev pub cursor_of : Page → Position
cursor_of p = place (cursor_col (five_columns latin) (codes "> ") p) (cursor_row (five_columns latin) (codes "> ") p)

module _ (p : Page) where
  -- the page after create, whatever stood before
  abbrev pub created : Page
  created = next create p

  -- then the line `abc`, the edit position at its end
  abbrev pub set_to : Page
  set_to = next (set (codes "abc") 3) created

  -- then `d` inserted
  abbrev pub inserted : Page
  inserted = next (insert (codes "d") 1) set_to

  -- then the edit position at the start
  abbrev pub gone : Page
  gone = next (go 0) inserted

  -- after create the line `abc`, LF, `d`, the edit position before the LF
  abbrev pub broken : Page
  broken = next (set (codes "abc" ++ (10 ∷ codes "d")) 3) created

  -- a full row gets its LF, one letter is written by itself, single moves go without their number, and a redraw erases both rows
  pub record WorkedWrites : Type 0 where
    pub set-abc : written (set (codes "abc") 3) created ≡ (13 ∷ 27 ∷ codes "[K> abc" ++ (10 ∷ 13 ∷ [])) ∷ []
    pub set-end : end_of set_to ≡ place 0 1
    pub insert-d : written (insert (codes "d") 1) set_to ≡ codes "d" ∷ []
    pub insert-cursor : cursor_of inserted ≡ place 1 1
    pub go-start : written (go 0) inserted ≡ (27 ∷ codes "[A" ++ (27 ∷ codes "[C")) ∷ []
    pub refresh-all : written refresh gone ≡ (27 ∷ codes "[1B" ++ (13 ∷ 27 ∷ codes "[K" ++ (27 ∷ codes "[A" ++ (13 ∷ 27 ∷ codes "[K> abcd" ++ (27 ∷ codes "[1A" ++ (13 ∷ 27 ∷ codes "[2C")))))) ∷ []
    pub broken-cursor : cursor_of broken ≡ place 0 1
    pub broken-end : end_of broken ≡ place 1 1
