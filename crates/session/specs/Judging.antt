-- How a session judges an act. Assumes nothing.
use Rattle.std.specs.Prelude.{◌≡◌, ℕ, List, Option, Result}
use Rattle.judging.specs.Judgements.{PlacedFor, Tells}
use Rattle.judging.specs.declared.judging.Placed.{Placed}
use Rattle.page.specs.Acts.{Act}
use Rattle.page.specs.Rules.{Refuses, refused_by}
use Rattle.session.specs.Sessions.{Sound, View, is_torn, page_of, prompt_of}
use Rattle.session.specs.declared.session.Session.{Session}
use Rattle.session.specs.declared.tables.Tables.{Tables}
use Rattle.terminal.specs.Windows.{geometry}
use Rattle.terminal.specs.declared.size.Size.{Size}
use Rattle.text.specs.declared.refusal.Refusal.{Refusal}

-- the refusal of an act by the page of a session, or none, on a terminal of a size
abbrev pub RefusesAct : (ℕ → ℕ) → Session → Tables → Size → Act → Option Refusal → Type 0
RefusesAct w s b extent a r = (v : View) → Refuses (geometry w s.size) (prompt_of b) (is_torn s.standing) ((extent ≡ s.size) × (s.begun ≡ s.size)) a (page_of s b v) r

-- a session that belongs to its tables judges an act by the rules, and accepted it tells P
pub record JudgesAct {A : Type 0} (w : ℕ → ℕ) (s : Session) (b : Tables) (extent : Size) (a : Act) (P : A → Type 0) (r : Result A Refusal) : Type 0 where
  pub refuses : Sound w s b → RefusesAct w s b extent a (refused_by r)
  pub tells : Sound w s b → Tells P r

-- and accepted it tells where a line ends, and its layout
abbrev pub JudgesEnds : (ℕ → ℕ) → Session → Tables → Size → Act → List ℕ → ℕ → Result Placed Refusal → Type 0
JudgesEnds w s b extent a line pos = JudgesAct w s b extent a (PlacedFor w s.size (prompt_of b) line pos)
