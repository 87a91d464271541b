-- A session created from a setup. Assumes nothing.
use Rattle.std.specs.Prelude.{◌≡◌, ℕ, true, false, List, is_err, Err}
use Rattle.judging.specs.Judgements.{Behind}
use Rattle.layout.specs.Laying.{LaidAs, corner}
use Rattle.lines.specs.Prompts.{raw_of, styled_of, visible_of}
use Rattle.page.specs.Acts.{create}
use Rattle.page.specs.Law.{Settings, World}
use Rattle.page.specs.Rules.{Outcome}
use Rattle.page.specs.Runs.{beginning}
use Rattle.page.specs.declared.outcome.Rejection.TheVariants.{Refused}
use Rattle.session.specs.Buffering.{Buffered, buffer_of}
use Rattle.session.specs.Sessions.{Sound, State, View, moment_of, settings_of}
use Rattle.session.specs.Tabled.{Begins}
use Rattle.session.specs.declared.session.Session.{Session}
use Rattle.session.specs.declared.setup.Setup.{Setup}
use Rattle.session.specs.declared.standing.Standing.TheVariants.{Torn}
use Rattle.session.specs.declared.tables.Tables.{Tables}
use Rattle.std.specs.Str.{chars}
use Rattle.terminal.specs.declared.size.Size.{Size}
use Rattle.text.specs.declared.refusal.Refusal.{Refusal}

-- what a setup settles for a terminal of a size
abbrev pub settled_by : Setup → Size → Settings
settled_by s extent = record { size = s.size; begun = extent; raw = raw_of s.prompt; styled = styled_of s.prompt; prompt = chars (visible_of s.prompt); colours = s.colours; holds = s.holds }

-- a session of a setup, with nothing drawn yet
pub record Fresh (w : ℕ → ℕ) (setup : Setup) (extent : Size) (s : Session) : Type 0 where
  pub size : s.size ≡ setup.size
  pub begun : s.begun ≡ extent
  pub colours : s.colours ≡ setup.colours
  pub holds : s.holds ≡ setup.holds
  pub standing : s.standing ≡ Torn
  pub lit : s.lit ≡ false
  pub prompt : Behind w setup.size (chars (visible_of setup.prompt)) s.prompt
  pub layout : LaidAs 1 corner corner corner s.layout

module _ {T H : Type 0} (w : World T H) where
  -- a create with tables whose draw buffer held some bytes: the setup's settings are those of the session, which belongs to its tables; refused, terminal and highlighter are as they were; not accepted, no block has a layout; and it is the first step of a run, and the draw buffer holds what follows from it
  pub record Created (setup : Setup) (t : T) (h : H) (before : List ℕ) (r : Outcome) (y : State T H) : Type 0 where
    pub settings : settings_of y.session y.tables ≡ settled_by setup (w.extent t)
    pub refused : (e : Refusal) → r ≡ Err (Refused e) → (y.terminal ≡ t) × (y.highlighter ≡ h)
    pub layout : is_err r ≡ true → LaidAs 1 corner corner corner y.session.layout
    pub sound : Sound w.columns y.session y.tables
    pub steps : (u : View) × Buffered w (settled_by setup (w.extent t)) (beginning t h) create r (moment_of y u) before (buffer_of y.tables)

  -- from a session that is fresh, with tables that have its prompt and nothing else
  abbrev pub Starts : State T H → Outcome → State T H → Type 0
  Starts x r y = (setup : Setup) (b : Tables) → Fresh w.columns setup (w.extent x.terminal) x.session → Begins setup.prompt b x.tables → Created setup x.terminal x.highlighter (buffer_of b) r y
