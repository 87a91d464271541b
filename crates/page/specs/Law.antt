-- The law over runs of acts. Assumes nothing.
use Rattle.std.specs.Prelude.{◌≡◌, ℕ, suc, Bool, true, false, cond, not, ◌&&◌, ◌||◌, List, [], ◌∷◌, is_ok, is_err, Some, None, Ok, Err, Option, Result}
use Rattle.page.specs.Acts.{Act, Replies, asks_hinter, clear, create, finish, go, insert, line_after, message, notice, page_after, pos_after, refresh, set, stays}
use Rattle.page.specs.Output.{direct, writes}
use Rattle.page.specs.Page.{Page, Shows}
use Rattle.page.specs.Rules.{Outcome, Refuses, mends}
use Rattle.page.specs.declared.outcome.BrokenAct.{BrokenAct}
use Rattle.page.specs.declared.outcome.Rejection.TheVariants.{Broke, Refused}
use Rattle.screen.specs.Screen.{Geometry, Screen}
use Rattle.terminal.specs.Windows.{geometry}
use Rattle.terminal.specs.Writing.{Ends}
use Rattle.terminal.specs.declared.size.Size.{Size}
use Rattle.terminal.specs.Answers.{WriteAnswer}
use Rattle.terminal.specs.declared.writing.BrokenWrite.{BrokenWrite}
use Rattle.text.specs.Texts.{GoodText}
use Rattle.text.specs.declared.refusal.Refusal.{Refusal}
use Rattle.text.specs.declared.refusal.Refusal.TheVariants.{Torn}

-- how a list of writes ends: all are taken, or one breaks, with its number from 0
module _ {T : Type 0} (answered : T → List ℕ → WriteAnswer → T → Type 0) where
  pub data Written : T → List (List ℕ) → Result Unit BrokenAct → T → Type 0 where
    done : {t : T} → Written t [] (Ok tt) t
    next : {s t u : T} {w : List ℕ} {ws : List (List ℕ)} → Ends answered w s (Ok tt) t → Written t ws (Ok tt) u → Written s (w ∷ ws) (Ok tt) u
    later : {s t u : T} {w : List ℕ} {ws : List (List ℕ)} {n : ℕ} {e : BrokenWrite} → Ends answered w s (Ok tt) t → Written t ws (Err (record { number = n; write = e })) u → Written s (w ∷ ws) (Err (record { number = suc n; write = e })) u
    broke : {s t : T} {w : List ℕ} {ws : List (List ℕ)} {e : BrokenWrite} → Ends answered w s (Err e) t → Written s (w ∷ ws) (Err (record { number = 0; write = e })) t

-- what is settled before create; `prompt` is the characters that both forms of the prompt show
pub record Settings : Type 0 where
  -- the size checked, and that of the terminal at create
  pub size : Size
  pub begun : Size
  pub raw : List ℕ
  pub styled : List ℕ
  pub prompt : List ℕ
  pub colours : Bool
  pub holds : Bool

-- between acts: terminal and highlighter as they are, the page, and whether the session is torn
pub record Moment (T H : Type 0) : Type 0 where
  pub terminal : T
  pub highlighter : H
  pub page : Page
  pub torn : Bool

-- an act of a run, how it ended, and the moment after it
pub record Entry (T H : Type 0) : Type 0 where
  pub act : Act
  pub outcome : Outcome
  pub after : Moment T H

-- a broken write tears a session, an accepted act leaves it untorn, a refused one leaves it as it was
abbrev pub torn_after : Bool → Outcome → Bool
torn_after torn (Ok u) = false
torn_after torn (Err (Refused e)) = torn
torn_after torn (Err (Broke b)) = true

-- a terminal, a highlighter and a hinter by their meanings
pub record World (T H : Type 0) : Type 1 where
  pub screen : T → Screen
  pub extent : T → Size
  pub answered : T → List ℕ → WriteAnswer → T → Type 0
  pub columns : ℕ → ℕ
  pub lights : H → List ℕ → ℕ → List ℕ → Type 0
  pub lights_prompt : H → List ℕ → Bool → List ℕ → Type 0
  pub lights_hint : H → List ℕ → List ℕ → Type 0
  -- whether the line is to be drawn anew, asked for a move and for another act
  pub heeds_move : H → List ℕ → ℕ → Bool → H → Type 0
  pub heeds_other : H → List ℕ → ℕ → Bool → H → Type 0
  pub hints : List ℕ → ℕ → Option (List ℕ)

module _ {T H : Type 0} (w : World T H) (z : Settings) where
  -- the window's size and the terminal's width table
  abbrev pub geometry_of : Geometry
  geometry_of = geometry w.columns z.size

  -- the highlighter asked: with colours off nobody is, and nothing is lit
  abbrev pub Heeds : (H → List ℕ → ℕ → Bool → H → Type 0) → H → List ℕ → ℕ → Bool → H → Type 0
  Heeds asked h line pos b k = cond z.colours (asked h line pos b k) ((b ≡ false) × (k ≡ h))

  -- what an act asks of the highlighter, by the pages before and after it
  abbrev pub Asks : Act → Page → Page → H → Bool → H → Type 0
  Asks create p q h b k = Heeds w.heeds_other h q.line q.pos b k
  Asks (insert c n) p q h b k = Heeds w.heeds_other h q.line q.pos b k
  Asks (set l x) p q h b k = Heeds w.heeds_other h q.line q.pos b k
  Asks (go x) p q h b k = cond (stays geometry_of z.prompt p q) (k ≡ h) (Heeds w.heeds_move h q.line q.pos b k)
  Asks refresh p q h b k = Heeds w.heeds_other h q.line q.pos b k
  Asks (message t) p q h b k = Heeds w.heeds_other h q.line q.pos b k
  Asks (notice t) p q h b k = k ≡ h
  Asks clear p q h b k = Heeds w.heeds_other h q.line q.pos b k
  Asks finish p q h b k = k ≡ h

  -- whether an act draws the block
  abbrev pub draws : Act → Replies → Page → Page → Bool
  draws create r p q = true
  draws (insert c n) r p q = not (direct geometry_of z.prompt c n r p q)
  draws (set l x) r p q = true
  draws (go x) r p q = not (stays geometry_of z.prompt p q) && (r.yes || p.lit)
  draws refresh r p q = true
  draws (message t) r p q = true
  draws (notice t) r p q = true
  draws clear r p q = true
  draws finish r p q = false

  -- the note as the highlighter styles it
  abbrev pub NoteLit : H → Option (List ℕ) → List ℕ → Type 0
  NoteLit h None lit = lit ≡ []
  NoteLit h (Some t) lit = w.lights_hint h t lit

  -- the styled texts of a page; with colours off the raw ones
  pub record Coloured (h : H) (q : Page) (r : Replies) : Type 0 where
    pub prompt : w.lights_prompt h z.styled true r.prompt
    pub line : w.lights h q.line q.pos r.line
    pub note : NoteLit h q.note r.note

  abbrev pub note_bytes : Option (List ℕ) → List ℕ
  note_bytes None = []
  note_bytes (Some t) = t

  pub record Uncoloured (q : Page) (r : Replies) : Type 0 where
    pub prompt : r.prompt ≡ z.raw
    pub line : r.line ≡ q.line
    pub note : r.note ≡ note_bytes q.note

  abbrev pub StyledBy : H → Page → Replies → Type 0
  StyledBy h q r = cond z.colours (Coloured h q r) (Uncoloured q r)

  -- an act that no rule refuses: what was answered, the page that follows, and the writes, up to a broken one
  pub record Went (m : Moment T H) (a : Act) (r : Result Unit BrokenAct) (n : Moment T H) : Type 0 where
    pub replies : Replies
    pub hint : replies.hint ≡ cond (asks_hinter a) (w.hints (line_after a m.page) (pos_after a m.page)) None
    pub hint_fine : (t : List ℕ) → replies.hint ≡ Some t → GoodText t
    pub page : n.page ≡ page_after geometry_of z.prompt (w.screen m.terminal) a replies (is_ok r) m.page
    pub asks : Asks a m.page n.page m.highlighter replies.yes n.highlighter
    pub styled : draws a replies m.page n.page ≡ true → StyledBy n.highlighter n.page replies
    pub written : Written w.answered m.terminal (writes geometry_of z.prompt z.holds m.torn a replies m.page n.page) r n.terminal
    pub torn : n.torn ≡ is_err r

  -- the act's terminal and that of its session's create are of the checked size
  abbrev pub SizeFine : Moment T H → Type 0
  SizeFine m = (w.extent m.terminal ≡ z.size) × (z.begun ≡ z.size)

  -- the refusal of an act, or none
  abbrev pub Refusing : Moment T H → Act → Option Refusal → Type 0
  Refusing m a = Refuses geometry_of z.prompt m.torn (SizeFine m) a m.page

  -- a step of a run: refused by a rule, with nothing altered; or accepted; or broken by the terminal
  abbrev pub Stepped : Moment T H → Act → Outcome → Moment T H → Type 0
  Stepped m a (Ok u) n = Refusing m a None × Went m a (Ok tt) n
  Stepped m a (Err (Refused e)) n = Refusing m a (Some e) × (n ≡ m)
  Stepped m a (Err (Broke b)) n = Refusing m a None × Went m a (Err b) n

  -- unless torn, the screen shows the page
  abbrev pub Shown : Moment T H → Type 0
  Shown m = m.torn ≡ false → Shows geometry_of z.prompt m.page (w.screen m.terminal)

  -- torn exactly from a broken write to the next accepted clear: until then every other act is refused for it
  pub record Tears (m : Moment T H) (a : Act) (o : Outcome) (n : Moment T H) : Type 0 where
    pub after : n.torn ≡ torn_after m.torn o
    pub others : m.torn ≡ true → mends a ≡ false → o ≡ Err (Refused Torn)

  -- an act of a run by the law: a step that leaves the page on the screen, or the session torn
  pub record Lawful (m : Moment T H) (e : Entry T H) : Type 0 where
    pub step : Stepped m e.act e.outcome e.after
    pub shown : Shown e.after
    pub tears : Tears m e.act e.outcome e.after

  -- every act of a history
  abbrev pub Lived : Moment T H → List (Entry T H) → Type 0
  Lived m [] = Unit {0}
  Lived m (e ∷ es) = Lawful m e × Lived e.after es
