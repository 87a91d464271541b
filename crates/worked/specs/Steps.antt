-- What a step says of who is asked, of a refusal, and of the write that broke. Assumes nothing.
use Rattle.std.specs.Prelude.{◌≡◌, ℕ, suc, Bool, true, false, map, List, [], ◌∷◌, length, take, drop, Ok, Err, Option, nat_lt}
use Rattle.page.specs.Acts.{Act, Replies, asks_hinter, clear, create, finish, go, insert, message, notice, refresh, set, stays}
use Rattle.page.specs.Law.{Asks, Coloured, Entry, Moment, Settings, SizeFine, Stepped, Tears, Went, World, Written, draws, geometry_of, torn_after}
use Rattle.page.specs.Page.{Page, Shows}
use Rattle.page.specs.Rules.{Outcome}
use Rattle.page.specs.Runs.{Continues, Holds, Made, Ran, beginning, begins, closes, last_of}
use Rattle.page.specs.declared.outcome.BrokenAct.{BrokenAct}
use Rattle.page.specs.declared.outcome.Rejection.TheVariants.{Broke, Refused}
use Rattle.screen.specs.Screen.{Screen}
use Rattle.terminal.specs.Answers.{WriteAnswer}
use Rattle.terminal.specs.Windows.{Ready}
use Rattle.terminal.specs.Writing.{Ends}
use Rattle.terminal.specs.declared.size.Size.{Size}
use Rattle.text.specs.declared.refusal.Refusal.{Refusal}
use Rattle.text.specs.declared.refusal.Refusal.TheVariants.{Tall, Torn}

-- what terminals, highlighters and hinters say, by tests; their states are numbers
pub record Tests : Type 0 where
  pub screen : ℕ → Screen
  pub extent : ℕ → Size
  pub answered : ℕ → List ℕ → WriteAnswer → ℕ → Bool
  pub columns : ℕ → ℕ
  pub lights : ℕ → List ℕ → ℕ → List ℕ → Bool
  pub lights_prompt : ℕ → List ℕ → Bool → List ℕ → Bool
  pub lights_hint : ℕ → List ℕ → List ℕ → Bool
  pub heeds_move : ℕ → List ℕ → ℕ → Bool → ℕ → Bool
  pub heeds_other : ℕ → List ℕ → ℕ → Bool → ℕ → Bool
  pub hints : List ℕ → ℕ → Option (List ℕ)

-- the world of such tests
abbrev pub world_of : Tests → World ℕ ℕ
world_of t = record {
  screen = t.screen;
  extent = t.extent;
  answered = λ s bytes a u. t.answered s bytes a u ≡ true;
  columns = t.columns;
  lights = λ h line pos lit. t.lights h line pos lit ≡ true;
  lights_prompt = λ h prompt standard lit. t.lights_prompt h prompt standard lit ≡ true;
  lights_hint = λ h hint lit. t.lights_hint h hint lit ≡ true;
  heeds_move = λ h line pos b k. t.heeds_move h line pos b k ≡ true;
  heeds_other = λ h line pos b k. t.heeds_other h line pos b k ≡ true;
  hints = t.hints;
}

-- one act of each kind
abbrev pub every_act : List Act
every_act = create ∷ insert [] 1 ∷ set [] 0 ∷ go 0 ∷ refresh ∷ message [] ∷ notice [] ∷ clear ∷ finish ∷ []

module _ {T H : Type 0} (w : World T H) (z : Settings) where
  -- a broken write by its number: those before it are taken, and it is the one that broke
  pub record Told (s : T) (ws : List (List ℕ)) (e : BrokenAct) (t : T) : Type 0 where
    pub before : T
    pub text : List ℕ
    pub taken : Written w.answered s (take e.number ws) (Ok tt) before
    pub at : drop e.number ws ≡ text ∷ drop (suc e.number) ws
    pub ends : Ends w.answered text before (Err e.write) t

  -- hinter and highlighter are asked by some acts and not by others, a go that stays asks nobody, and with colours off nobody is asked
  pub record WorkedAsks : Type 0 where
    pub hinter : map asks_hinter every_act ≡ true ∷ true ∷ true ∷ false ∷ true ∷ false ∷ false ∷ true ∷ false ∷ []
    pub hint-new : (m n : Moment T H) (l : List ℕ) (x : ℕ) (g : Went w z m (set l x) (Ok tt) n) → g.replies.hint ≡ w.hints l x
    pub finish-none : (p q : Page) (h k : H) (b : Bool) → Asks w z finish p q h b k → k ≡ h
    pub notice-none : (t : List ℕ) (p q : Page) (h k : H) (b : Bool) → Asks w z (notice t) p q h b k → k ≡ h
    pub stays-none : (x : ℕ) (p q : Page) (h k : H) (b : Bool) → stays (geometry_of w z) z.prompt p q ≡ true → Asks w z (go x) p q h b k → k ≡ h
    pub moves-asks : (x : ℕ) (p q : Page) (h k : H) (b : Bool) → z.colours ≡ true → stays (geometry_of w z) z.prompt p q ≡ false → Asks w z (go x) p q h b k → w.heeds_move h q.line q.pos b k
    pub set-asks : (l : List ℕ) (x : ℕ) (p q : Page) (h k : H) (b : Bool) → z.colours ≡ true → Asks w z (set l x) p q h b k → w.heeds_other h q.line q.pos b k
    pub uncoloured : (l : List ℕ) (x : ℕ) (p q : Page) (h k : H) (b : Bool) → z.colours ≡ false → Asks w z (set l x) p q h b k → (b ≡ false) × (k ≡ h)

  -- a refused act alters nothing, both sizes are looked at, a message and a clear draw the block by the styled prompt, the number tells which write broke, and a run that lives on leaves out no act
  pub record WorkedSteps : Type 0 where
    pub refused : (m n : Moment T H) (a : Act) (e : Refusal) → Stepped w z m a (Err (Refused e)) n → n ≡ m
    pub sizes : (m : Moment T H) → SizeFine w z m → (w.extent m.terminal ≡ z.size) × (z.begun ≡ z.size)
    pub message-drawn : (t : List ℕ) (r : Replies) (p q : Page) → draws w z (message t) r p q ≡ true
    pub clear-drawn : (r : Replies) (p q : Page) → draws w z clear r p q ≡ true
    pub prompt-lit : (h : H) (q : Page) (r : Replies) → Coloured w z h q r → w.lights_prompt h z.styled true r.prompt
    pub number : (s t : T) (ws : List (List ℕ)) (e : BrokenAct) → Written w.answered s ws (Err e) t → Told s ws e t
    pub done-first : (t u : T) (h k : H) (acts : List Act) (alive : Bool) (g : Ran w z t h acts alive u k) → g.done ≡ take (length g.done) acts
    pub done-all : (t u : T) (h k : H) (acts : List Act) (g : Ran w z t h acts true u k) → g.done ≡ acts

  -- a create and no other act begins a session and none comes again, an accepted finish and no other act ends it; what is broken is torn, and then other acts than clear are refused for it; the rows above the block are those of the page
  pub record WorkedRuns : Type 0 where
    pub begin-acts : map begins every_act ≡ true ∷ false ∷ false ∷ false ∷ false ∷ false ∷ false ∷ false ∷ false ∷ []
    pub no-second : (e : Entry T H) (es : List (Entry T H)) → Continues w z (e ∷ es) → begins e.act ≡ false
    pub not-made : (e : Refusal) → Made w z (Err (Refused e)) → ⊥
    pub close-acts : map (λ a. closes a (Ok tt)) every_act ≡ false ∷ false ∷ false ∷ false ∷ false ∷ false ∷ false ∷ false ∷ true ∷ []
    pub close-refused : closes finish (Err (Refused Torn)) ≡ false
    pub ready-ended : (m : Moment T H) (es : List (Entry T H)) → Holds w z m es → (last_of w z m es).page.ended ≡ true → Ready (w.screen (last_of w z m es).terminal)
    pub torn-accepted : torn_after true (Ok tt) ≡ false
    pub torn-refused : (b : Bool) → torn_after b (Err (Refused Tall)) ≡ b
    pub torn-broken : (b : BrokenAct) → torn_after false (Err (Broke b)) ≡ true
    pub torn-refuses : (m n : Moment T H) (o : Outcome) → Tears w z m (go 0) o n → m.torn ≡ true → o ≡ Err (Refused Torn)
    pub torn-not-yet : (t : T) (h : H) → (beginning t h).torn ≡ false
    pub last-two : (m : Moment T H) (e f : Entry T H) → last_of w z m (e ∷ f ∷ []) ≡ f.after
    pub rows-above : (p : Page) (s : Screen) (i j : ℕ) → Shows (geometry_of w z) z.prompt p s → nat_lt i p.base ≡ true → s.pen.paper i j ≡ p.upper i j
