-- What an observer of a run is told. Assumes nothing.
use Rattle.std.specs.Prelude.{◌≡◌, Bool, List, [], ◌∷◌, Some, None, Option}
use Rattle.lines.specs.Lines.{line_of}
use Rattle.lines.specs.Notes.{note_of}
use Rattle.page.specs.Acts.{Act}
use Rattle.page.specs.Law.{Entry, Moment, Settings, World}
use Rattle.page.specs.Page.{Page}
use Rattle.page.specs.Rules.{Outcome}
use Rattle.page.specs.Runs.{Ran}
use Rattle.session.specs.Acting.{state_of}
use Rattle.session.specs.Sessions.{View, moment_of}
use Rattle.session.specs.declared.session.Session.{Session}
use Rattle.session.specs.declared.tables.Tables.{Tables}

-- tables that hold the texts of a page
pub record Keeps (b : Tables) (p : Page) : Type 0 where
  pub line : line_of b.line ≡ p.line
  pub pos : b.line.pos ≡ p.pos
  pub note : note_of b.note ≡ p.note
  pub hint : note_of b.hint ≡ p.hint

module _ {T H O : Type 0} (told : O → T → Act → Outcome → Bool → O → Type 0) where
  -- of each act of a history, in order: the terminal as it then is, the act, how it ended, and whether the session is torn
  abbrev pub Told : O → List (Entry T H) → O → Type 0
  Told o [] p = p ≡ o
  Told o (e ∷ es) p = (q : O) × told o e.after.terminal e.act e.outcome e.after.torn q × Told q es p

  -- the session that lives on has the page that the run leaves; after an accepted finish the tables hold its texts
  abbrev pub Leaves : Option Session → Tables → Moment T H → Type 0
  Leaves (Some s) b m = (v : View) × (moment_of (state_of m.terminal m.highlighter s b) v ≡ m)
  Leaves None b m = Keeps b m.page

  -- a run, an observer told of each of its acts, and the session and the tables that it leaves
  pub record Observed (w : World T H) (z : Settings) (t : T) (h : H) (acts : List Act) (alive : Bool) (u : T) (k : H) (o p : O) (left : Option Session) (b : Tables) : Type 0 where
    pub ran : Ran w z t h acts alive u k
    pub heard : Told o (ran.history.first ∷ ran.history.others) p
    pub leaves : Leaves left b ran.last
