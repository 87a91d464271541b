-- A session with its tables, and the page that they are of. Assumes nothing.
use Rattle.std.specs.Prelude.{◌≡◌, ℕ, ◌<◌, ◌≤◌, Bool, true, false, List, [], ◌++◌, Option}
use Rattle.judging.specs.Fitting.{LaidOut}
use Rattle.judging.specs.Judgements.{Behind, Low}
use Rattle.layout.specs.declared.block.Layout.{Layout}
use Rattle.lines.specs.Lines.{line_of}
use Rattle.lines.specs.Notes.{note_of}
use Rattle.lines.specs.Prompts.{raw_of, styled_of, visible_of}
use Rattle.page.specs.Law.{Moment, Settings}
use Rattle.page.specs.Page.{Page, note_text}
use Rattle.screen.specs.Screen.{Geometry, Paper, block, place_row}
use Rattle.session.specs.declared.session.Session.{Session}
use Rattle.session.specs.declared.standing.Standing.{Standing}
use Rattle.session.specs.declared.standing.Standing.TheVariants.{Open, Tall, Torn}
use Rattle.session.specs.declared.tables.Tables.{Tables}
use Rattle.std.specs.Str.{chars}
use Rattle.terminal.specs.Windows.{geometry}

-- all that an act works on
pub record State (T H : Type 0) : Type 0 where
  pub terminal : T
  pub highlighter : H
  pub session : Session
  pub tables : Tables

-- what of a page no session holds: the rows above the block, and the window's top
pub record View : Type 0 where
  pub upper : Paper
  pub base : ℕ
  pub window : ℕ

abbrev pub is_torn : Standing → Bool
is_torn Tall = false
is_torn Open = false
is_torn Torn = true

-- the characters of the prompt
abbrev pub prompt_of : Tables → List ℕ
prompt_of b = chars (visible_of b.prompt)

-- what was settled before create
abbrev pub settings_of : Session → Tables → Settings
settings_of s b = record { size = s.size; begun = s.begun; raw = raw_of b.prompt; styled = styled_of b.prompt; prompt = prompt_of b; colours = s.colours; holds = s.holds }

-- the page of a session
abbrev pub page_of : Session → Tables → View → Page
page_of s b v = record { line = line_of b.line; pos = b.line.pos; note = note_of b.note; hint = note_of b.hint; lit = s.lit; upper = v.upper; base = v.base; window = v.window; ended = false }

abbrev pub moment_of : {T H : Type 0} → State T H → View → Moment T H
moment_of x v = record { terminal = x.terminal; highlighter = x.highlighter; page = page_of x.session x.tables v; torn = is_torn x.session.standing }

-- the screen shows the block of prompt, line and note: line and hint each fit the window, so does the block, and the layout is its own
pub record Shown (d : Geometry) (ps text : List ℕ) (pos : ℕ) (note next : Option (List ℕ)) (l : Layout) : Type 0 where
  pub line : Low d ps text []
  pub hint : place_row d (block d (ps ++ (chars text ++ note_text next))) < d.rows
  pub whole : place_row d (block d (ps ++ (chars text ++ note_text note))) < d.rows
  pub laid : LaidOut d ps text pos note l

-- by how the session stands: its prompt alone is too high; or its block is on the screen; or only that its line fits the window is known
abbrev pub Stands : Geometry → Tables → Layout → Standing → Type 0
Stands d b l Tall = d.rows ≤ place_row d (block d (prompt_of b))
Stands d b l Open = Shown d (prompt_of b) (line_of b.line) b.line.pos (note_of b.note) (note_of b.hint) l
Stands d b l Torn = Low d (prompt_of b) (line_of b.line) []

-- a session and tables that belong together, by a width table
pub record Sound (w : ℕ → ℕ) (s : Session) (b : Tables) : Type 0 where
  pub prompt : Behind w s.size (prompt_of b) s.prompt
  pub stands : s.begun ≡ s.size → Stands (geometry w s.size) b s.layout s.standing
