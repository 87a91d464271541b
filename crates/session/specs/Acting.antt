-- What an act of a session does, by the law of runs. Assumes nothing.
use Rattle.std.specs.Prelude.{◌≡◌, ℕ, Bool, List, Ok, Err, Option, Result}
use Rattle.highlight.specs.declared.highlight.CmdKind.{CmdKind}
use Rattle.highlight.specs.declared.highlight.CmdKind.TheVariants.{MoveCursor, Other}
use Rattle.layout.specs.Laying.{LaidAs, corner}
use Rattle.layout.specs.declared.block.Layout.{Layout}
use Rattle.page.specs.Acts.{Act, clear, create, finish, go, insert, message, notice, refresh, set}
use Rattle.page.specs.Law.{World}
use Rattle.page.specs.Rules.{Outcome}
use Rattle.page.specs.declared.outcome.BrokenAct.{BrokenAct}
use Rattle.page.specs.declared.outcome.Rejection.TheVariants.{Broke, Refused}
use Rattle.screen.specs.Screen.{Screen}
use Rattle.session.specs.Buffering.{Buffered, buffer_of}
use Rattle.session.specs.Sessions.{Sound, State, View, moment_of, settings_of}
use Rattle.session.specs.declared.session.Session.{Session}
use Rattle.session.specs.declared.tables.Tables.{Tables}
use Rattle.terminal.specs.declared.size.Size.{Size}
use Rattle.terminal.specs.Answers.{WriteAnswer}
use Rattle.text.specs.declared.refusal.Refusal.{Refusal}

-- a terminal, a highlighter and a hinter by what they mean
abbrev pub world_of : {T H : Type 0} → (T → Screen) → (T → Size) → (T → List ℕ → WriteAnswer → T → Type 0) → (ℕ → ℕ)
    → (H → List ℕ → ℕ → List ℕ → Type 0) → (H → List ℕ → Bool → List ℕ → Type 0) → (H → List ℕ → List ℕ → Type 0) → (H → List ℕ → ℕ → CmdKind → Bool → H → Type 0)
    → (List ℕ → ℕ → Option (List ℕ)) → World T H
world_of screen extent answered columns lights lights_prompt lights_hint heeds hints = record {
  screen = screen;
  extent = extent;
  answered = answered;
  columns = columns;
  lights = lights;
  lights_prompt = lights_prompt;
  lights_hint = lights_hint;
  heeds_move = λ h line pos. heeds h line pos MoveCursor;
  heeds_other = λ h line pos. heeds h line pos Other;
  hints = hints;
}

abbrev pub state_of : {T H : Type 0} → T → H → Session → Tables → State T H
state_of t h s b = record { terminal = t; highlighter = h; session = s; tables = b }

-- how an act ends that no rule refuses, by how its writes ended
abbrev pub outcome_of : Result Unit BrokenAct → Outcome
outcome_of (Ok u) = Ok tt
outcome_of (Err b) = Err (Broke b)

-- the layout before a broken act and after it: a notice and a clear forget it before they write
abbrev pub LeavesLayout : Act → Layout → Layout → Type 0
LeavesLayout create old new = new ≡ old
LeavesLayout (insert c n) old new = new ≡ old
LeavesLayout (set l q) old new = new ≡ old
LeavesLayout (go q) old new = new ≡ old
LeavesLayout refresh old new = new ≡ old
LeavesLayout (message t) old new = new ≡ old
LeavesLayout (notice t) old new = LaidAs 1 corner corner corner new
LeavesLayout clear old new = LaidAs 1 corner corner corner new
LeavesLayout finish old new = new ≡ old

module _ {T H : Type 0} (w : World T H) where
  -- whatever stands above the block: the act is a step of a run from the session's page to that of the session after it, and the draw buffer holds what follows from that step
  abbrev pub Steps : State T H → Act → Outcome → State T H → Type 0
  Steps x a r y = (v : View) → (u : View) × Buffered w (settings_of x.session x.tables) (moment_of x v) a r (moment_of y u) (buffer_of x.tables) (buffer_of y.tables)

  -- an act: what was settled stays; refused, everything is as it was; broken, the layout is what the act left of it; and a session that belongs to its tables takes a step of a run and still belongs to them
  pub record Acted (x : State T H) (a : Act) (r : Outcome) (y : State T H) : Type 0 where
    pub settings : settings_of y.session y.tables ≡ settings_of x.session x.tables
    pub refused : (e : Refusal) → r ≡ Err (Refused e) → y ≡ x
    pub broken : (b : BrokenAct) → r ≡ Err (Broke b) → LeavesLayout a x.session.layout y.session.layout
    pub sound : Sound w.columns x.session x.tables → Sound w.columns y.session y.tables
    pub steps : Sound w.columns x.session x.tables → Steps x a r y
