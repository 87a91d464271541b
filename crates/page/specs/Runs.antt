-- Runs: create, and then acts one after the other. Assumes nothing.
use Rattle.std.specs.Prelude.{◌≡◌, Bool, true, false, not, ◌||◌, List, [], ◌∷◌, ◌++◌, is_ok, None, Ok, Err}
use Rattle.page.specs.Acts.{Act, clear, create, finish, go, insert, message, notice, refresh, set}
use Rattle.page.specs.Law.{Entry, Lived, Moment, Settings, Stepped, World, geometry_of}
use Rattle.page.specs.Page.{Page}
use Rattle.page.specs.Rules.{HeightFine, Outcome}
use Rattle.page.specs.declared.outcome.Rejection.TheVariants.{Broke, Refused}
use Rattle.screen.specs.Bytes.{act}
use Rattle.screen.specs.Screen.{blank_paper}
use Rattle.terminal.specs.Windows.{Ready}

-- an accepted finish is the last act of a session
abbrev pub closes : Act → Outcome → Bool
closes create o = false
closes (insert c n) o = false
closes (set l q) o = false
closes (go q) o = false
closes refresh o = false
closes (message t) o = false
closes (notice t) o = false
closes clear o = false
closes finish o = is_ok o

-- whether an act begins a session
abbrev pub begins : Act → Bool
begins create = true
begins (insert c n) = false
begins (set l q) = false
begins (go q) = false
begins refresh = false
begins (message t) = false
begins (notice t) = false
begins clear = false
begins finish = false

-- no page yet: what stands before create
abbrev pub empty_page : Page
empty_page = record { line = []; pos = 0; note = None; hint = None; lit = false; upper = blank_paper; base = 0; window = 0; ended = false }

-- the moment before create
abbrev pub beginning : {T H : Type 0} → T → H → Moment T H
beginning t h = record { terminal = t; highlighter = h; page = empty_page; torn = false }

-- the acts of a history
abbrev pub acts_of : {T H : Type 0} → List (Entry T H) → List Act
acts_of [] = []
acts_of (e ∷ es) = e.act ∷ acts_of es

-- whether a history has an accepted finish
abbrev pub finishes : {T H : Type 0} → List (Entry T H) → Bool
finishes [] = false
finishes (e ∷ es) = closes e.act e.outcome || finishes es

module _ {T H : Type 0} (w : World T H) (z : Settings) where
  -- each act of a history is a step from what the one before it left
  abbrev pub Linked : Moment T H → List (Entry T H) → Type 0
  Linked m [] = Unit {0}
  Linked m (e ∷ es) = Stepped w z m e.act e.outcome e.after × Linked e.after es

  -- after create comes no create, and after an accepted finish nothing
  abbrev pub Continues : List (Entry T H) → Type 0
  Continues [] = Unit {0}
  Continues (e ∷ es) = (begins e.act ≡ false) × (closes e.act e.outcome ≡ true → es ≡ []) × Continues es

  -- the moment after a history
  abbrev pub last_of : Moment T H → List (Entry T H) → Moment T H
  last_of m [] = m
  last_of m (e ∷ es) = last_of e.after es

  -- a create that made a page: accepted, or broken by the terminal
  abbrev pub Made : Outcome → Type 0
  Made (Ok u) = Unit {0}
  Made (Err (Refused e)) = ⊥
  Made (Err (Broke b)) = Unit {0}

  -- a run on a ready terminal of the checked size: after every act the screen shows the page, unless torn, and after an accepted finish the terminal is ready
  pub record Holds (m : Moment T H) (es : List (Entry T H)) : Type 0 where
    pub lived : Lived w z m es
    pub ready : (last_of m es).page.ended ≡ true → Ready (w.screen (last_of m es).terminal)

  -- the law of every chain of steps that begins with create on a ready terminal of the checked size
  abbrev pub LawOfChains : Type 0
  LawOfChains = (m : Moment T H) (e : Entry T H) (es : List (Entry T H))
      → w.extent m.terminal ≡ z.size → Ready (w.screen m.terminal)
      → begins e.act ≡ true → Made e.outcome → Linked m (e ∷ es) → Continues es → Holds m (e ∷ es)

  -- a session so far: create and then these acts; `alive` unless the last of them is an accepted finish
  pub record History (t : T) (h : H) (acts : List Act) (alive : Bool) (m : Moment T H) : Type 0 where
    pub first : Entry T H
    pub others : List (Entry T H)
    pub creates : first.act ≡ create
    pub does : acts_of others ≡ acts
    pub linked : Linked (beginning t h) (first ∷ others)
    pub continues : Continues others
    pub ended : finishes others ≡ not alive
    pub leaves : last_of (beginning t h) (first ∷ others) ≡ m

  -- a terminal for which the law holds: of the checked size, ready, and the prompt not higher than its window
  pub record Prepared (t : T) : Type 0 where
    pub size : w.extent t ≡ z.size
    pub height : HeightFine (geometry_of w z) z.prompt create empty_page
    pub ready : Ready (w.screen t)

  -- a run: create, then the given acts in order until they end or a finish is accepted
  pub record Ran (t : T) (h : H) (acts : List Act) (alive : Bool) (u : T) (k : H) : Type 0 where
    pub begun : z.begun ≡ w.extent t
    -- the acts done are a front of those given, and all of them unless a finish was accepted
    pub done : List Act
    pub left : List Act
    pub given : acts ≡ done ++ left
    pub whole : alive ≡ true → left ≡ []
    -- what was done, and the terminal and the highlighter that it leaves
    pub last : Moment T H
    pub history : History t h done alive last
    pub terminal : last.terminal ≡ u
    pub highlighter : last.highlighter ≡ k
    -- the law: after every act the screen shows the page, unless torn, and after an accepted finish the terminal is ready
    pub law : Prepared t → Holds (beginning t h) (history.first ∷ history.others)
    pub ready : Prepared t → alive ≡ false → Ready (w.screen u)
