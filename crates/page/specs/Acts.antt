-- The nine acts, and the page that follows from each. Assumes nothing.
use Rattle.std.specs.Prelude.{ℕ, suc, ◌+◌, ◌-◌, ◌*◌, max, Bool, true, false, cond, ◌&&◌, ◌||◌, List, [], ◌++◌, length, take, drop, Some, None, Option, ◌==◌, nat_lt, slice_index}
use Rattle.page.specs.Page.{Page, cursor_col, cursor_row, end_row}
use Rattle.screen.specs.Screen.{Geometry, Paper, Screen, block, over, place_row}
use Rattle.std.specs.List.{repeat}
use Rattle.std.specs.Str.{chars}

pub data Act : Type 0 where
  create : Act
  -- a character's bytes, and how often it is inserted at the edit position
  insert : List ℕ → ℕ → Act
  -- a line and a position
  set : List ℕ → ℕ → Act
  go : ℕ → Act
  refresh : Act
  message : List ℕ → Act
  notice : List ℕ → Act
  clear : Act
  finish : Act

-- what highlighter and hinter answered in an act: the hint, whether the line is to be drawn anew, and the styled texts
pub record Replies : Type 0 where
  pub hint : Option (List ℕ)
  pub yes : Bool
  pub prompt : List ℕ
  pub line : List ℕ
  pub note : List ℕ

-- a text n times
abbrev pub times : ℕ → List ℕ → List ℕ
times n t = repeat n t

-- the line after an act
abbrev pub line_after : Act → Page → List ℕ
line_after create p = []
line_after (insert c n) p = take p.pos p.line ++ (times n c ++ drop p.pos p.line)
line_after (set l q) p = l
line_after (go q) p = p.line
line_after refresh p = p.line
line_after (message t) p = p.line
line_after (notice t) p = p.line
line_after clear p = p.line
line_after finish p = p.line

-- the edit position after an act
abbrev pub pos_after : Act → Page → ℕ
pos_after create p = 0
pos_after (insert c n) p = p.pos + n * length c
pos_after (set l q) p = q
pos_after (go q) p = q
pos_after refresh p = p.pos
pos_after (message t) p = p.pos
pos_after (notice t) p = p.pos
pos_after clear p = p.pos
pos_after finish p = p.pos

-- the hinter is asked where the line is drawn with a hint
abbrev pub asks_hinter : Act → Bool
asks_hinter create = true
asks_hinter (insert c n) = true
asks_hinter (set l q) = true
asks_hinter (go q) = false
asks_hinter refresh = true
asks_hinter (message t) = false
asks_hinter (notice t) = false
asks_hinter clear = true
asks_hinter finish = false

-- whether a text ends with LF
abbrev pub ends_line : List ℕ → Bool
ends_line t = slice_index t (length t - 1) == 10

-- a notice's characters: an LF at its end only closes its last row
abbrev pub notice_text : List ℕ → List ℕ
notice_text t = chars (cond (ends_line t) (take (length t - 1) t) t)

module _ (d : Geometry) (prompt : List ℕ) where
  -- a hint that would pass the window's height counts as none
  abbrev pub fitted : List ℕ → Option (List ℕ) → Option (List ℕ)
  fitted line None = None
  fitted line (Some t) = cond (nat_lt (place_row d (block d (prompt ++ (chars line ++ chars t)))) d.rows) (Some t) None

  -- the window moves down just enough to show the block's last row
  abbrev pub settled : Page → Page
  settled p = record { line = p.line; pos = p.pos; note = p.note; hint = p.hint; lit = p.lit; upper = p.upper; base = p.base; window = max p.window (suc (p.base + end_row d prompt p) - d.rows); ended = p.ended }

  -- the page with another line and position
  abbrev pub edited : List ℕ → ℕ → Page → Page
  edited l q p = record { line = l; pos = q; note = p.note; hint = p.hint; lit = p.lit; upper = p.upper; base = p.base; window = p.window; ended = p.ended }

  -- with another note and last hint, and what the highlighter wanted
  abbrev pub noted : Option (List ℕ) → Option (List ℕ) → Bool → Page → Page
  noted n h y p = record { line = p.line; pos = p.pos; note = n; hint = h; lit = y; upper = p.upper; base = p.base; window = p.window; ended = p.ended }

  -- with other upper rows
  abbrev pub raised : Paper → ℕ → ℕ → Page → Page
  raised up b w p = record { line = p.line; pos = p.pos; note = p.note; hint = p.hint; lit = p.lit; upper = up; base = b; window = w; ended = p.ended }

  abbrev pub closed : Page → Page
  closed p = record { line = p.line; pos = p.pos; note = p.note; hint = p.hint; lit = p.lit; upper = p.upper; base = p.base; window = max p.window (suc (suc (p.base + end_row d prompt p)) - d.rows); ended = true }

  -- the line drawn anew with the hinter's answer
  abbrev pub hinted : Replies → Page → Page
  hinted r p = settled (noted (fitted p.line r.hint) (fitted p.line r.hint) r.yes p)

  -- the rows of a notice join the upper rows
  abbrev pub printed : List ℕ → Page → Page
  printed t p = raised (over p.base p.upper (block d (notice_text t)).paper) (p.base + suc (block d (notice_text t)).row) p.window p

  -- both places of a go are one
  abbrev pub stays : Page → Page → Bool
  stays p q = cursor_row d prompt p == cursor_row d prompt q && cursor_col d prompt p == cursor_col d prompt q

  -- a go that redraws drops the note
  abbrev pub gone : Replies → Page → Page → Page
  gone r p q = cond (stays p q) q (cond (r.yes || p.lit) (settled (noted None q.hint r.yes q)) (noted q.note q.hint r.yes q))

  -- the first page: an empty line below the rows found
  abbrev pub started : Screen → Page
  started s = record { line = []; pos = 0; note = None; hint = None; lit = false; upper = s.pen.paper; base = s.pen.row; window = s.top; ended = false }

  -- the page after an act that no rule refused, from the screen that it found
  abbrev pub page_after : Screen → Act → Replies → Bool → Page → Page
  page_after s create r done p = hinted r (started s)
  page_after s (insert c n) r done p = hinted r (edited (line_after (insert c n) p) (pos_after (insert c n) p) p)
  page_after s (set l q) r done p = hinted r (edited l q p)
  page_after s (go q) r done p = gone r p (edited p.line q p)
  page_after s refresh r done p = hinted r p
  page_after s (message t) r done p = settled (noted (Some t) None r.yes p)
  page_after s (notice t) r done p = settled (noted p.hint p.hint p.lit (printed t p))
  page_after s clear r done p = hinted r (raised s.pen.paper s.top s.top p)
  page_after s finish r done p = cond done (closed p) p
