-- A run from its create on: what each turn keeps, and what the end has.
use Rattle.std.proofs.Common.{◌≡◌, ℕ, Bool, zero, suc, ◌+◌, ◌<◌, ◌≤◌, true, false, List, [], ◌∷◌, ◌++◌, Some, None, Ok, Err, Option, length, get_or, take, drop, sym, refl, ap, ◌∙◌, subst, append-nil, add-one, arith}
use borrow.Author.Tests.{clash}
use Rattle.lines.specs.Lines.{line_of}
use Rattle.lines.specs.Notes.{note_of}
use Rattle.lines.specs.declared.line_buffer.LineBuffer.{LineBuffer}
use Rattle.page.proofs.Running.{ran}
use Rattle.page.specs.Acts.{Act, closed, create, finish}
use Rattle.page.specs.Law.{Moment, Settings, World}
use Rattle.page.specs.Meaning.{Meant}
use Rattle.page.specs.Rules.{Outcome}
use Rattle.page.specs.Runs.{begins, closes}
use Rattle.page.specs.declared.outcome.Rejection.{Rejection}
use Rattle.running.proofs.Histories.{Lasting, acted-history, ended-history, lasting-none}
use Rattle.running.proofs.Meanings.{raw-shown, styled-shown}
use Rattle.session.specs.Acting.{Acted}
use Rattle.session.specs.Creating.{Created, settled_by}
use Rattle.running.specs.Deeds.{deed, deeds}
use Rattle.running.specs.Observing.{Leaves, Observed}
use Rattle.running.specs.Running.{Kept, Performed}
use Rattle.session.specs.Finishing.{Ended, SameTexts}
use Rattle.session.specs.Sessions.{Sound, State, View, is_torn, moment_of, page_of, prompt_of, settings_of}
use Rattle.running.specs.declared.act.Act as declared
use Rattle.running.specs.declared.act.Act.TheVariants as act
use Rattle.session.specs.declared.session.Session.{Session}
use Rattle.session.specs.declared.setup.Setup.{Setup}
use Rattle.session.specs.declared.tables.Tables.{Tables}
use Rattle.std.proofs.lemmas.List.{take_all}
use Rattle.terminal.specs.Windows.{geometry}

-- no act of a list begins a session
pub begins-none : (a : declared.Act) → begins (deed a) ≡ false
begins-none (act.Insert t n) = refl
begins-none (act.Set t n) = refl
begins-none (act.Go n) = refl
begins-none act.Refresh = refl
begins-none (act.Message t) = refl
begins-none (act.Notice t) = refl
begins-none act.Clear = refl
begins-none act.Finish = refl

-- one act more of a list
pub deeds-more : (acts : List declared.Act) (i : ℕ) (d : declared.Act) → i < length acts → deeds (take (suc i) acts) ≡ deeds (take i acts) ++ (deed (get_or acts i d) ∷ [])
deeds-more [] i d h = absurd (omega arith)
deeds-more (a ∷ acts) zero d h = refl
deeds-more (a ∷ acts) (suc i) d h = ap (λ (l : List Act). deed a ∷ l) (deeds-more acts i d (omega arith))

-- a list's front and its rest
pub deeds-parts : (acts : List declared.Act) (i : ℕ) → deeds acts ≡ deeds (take i acts) ++ deeds (drop i acts)
deeds-parts acts zero = refl
deeds-parts [] (suc i) = refl
deeds-parts (a ∷ acts) (suc i) = ap (λ (l : List Act). deed a ∷ l) (deeds-parts acts i)

module _ {T H O : Type 0} (told : O → T → Act → Outcome → Bool → O → Type 0) (w : World T H) where
  -- from a session to itself after some acts: it still belongs to its tables, what was settled stays, and the acts go on with any run up to there, each of them told to an observer
  pub record Onward (x y : State T H) (q p : O) (done : List Act) : Type 0 where
    pub sound : Sound w.columns y.session y.tables
    pub settings : settings_of y.session y.tables ≡ settings_of x.session x.tables
    pub history : (z : Settings) (t : T) (h : H) (o : O) (v : View) → settings_of x.session x.tables ≡ z → Lasting told w z t h o [] true (moment_of x v) q → (u : View) × Lasting told w z t h o done true (moment_of y u) p

  pub onward-none : (x : State T H) (q : O) → Sound w.columns x.session x.tables → Onward x x q q []
  onward-none x q s = record { sound = s; settings = refl; history = λ z t h o v e past. (v, past) }

  pub onward-more : (x y : State T H) (q p : O) (acts : List declared.Act) (i : ℕ) (d : declared.Act) → i < length acts → Onward x y q p (deeds (take i acts)) → (r : Outcome) (n : State T H) (after : O) → Acted w y (deed (get_or acts i d)) r n → closes (deed (get_or acts i d)) r ≡ false
      → told p n.terminal (deed (get_or acts i d)) r (is_torn n.session.standing) after → Onward x n q after (deeds (take (i + 1) acts))
  onward-more x y q p acts i d lt past r n after act live now = record {
    sound = act.sound past.sound;
    settings = act.settings ∙ past.settings;
    history = λ z t h o v e begun.
        let before = past.history z t h o v e begun in
        let next = acted-history told w z t h o (deeds (take i acts)) y n (deed (get_or acts i d)) r p after (past.settings ∙ e) past.sound (begins-none (get_or acts i d)) live act now before.0 before.1 in
        (next.0, subst (λ (l : List Act). Lasting told w z t h o l true (moment_of n next.0) after) (sym (ap (λ k. deeds (take k acts)) (add-one i) ∙ deeds-more acts i d lt)) next.1);
  }

  -- an act after which the session lives on
  pub onward-kept : (x y : State T H) (q p : O) (acts : List declared.Act) (i : ℕ) (d : declared.Act) → i < length acts → Onward x y q p (deeds (take i acts))
      → (how : Option Outcome) (r : Outcome) (n : State T H) (after : O) → Performed w y (deed (get_or acts i d)) how n → how ≡ Some r
      → told p n.terminal (deed (get_or acts i d)) r (is_torn n.session.standing) after → Onward x n q after (deeds (take (i + 1) acts))
  onward-kept x y q p acts i d lt past how r n after does is now =
      let live = subst (λ (o : Option Outcome). Performed w y (deed (get_or acts i d)) o n) is does in
      onward-more x y q p acts i d lt past r n after live.0 live.1 now

  -- a finish that is not accepted
  pub onward-back : (x y : State T H) (q p : O) (acts : List declared.Act) (i : ℕ) (d : declared.Act) → i < length acts → Onward x y q p (deeds (take i acts))
      → (how : Option Outcome) (n m : State T H) (e : Rejection) (after : O) → Performed w y (deed (get_or acts i d)) how n → how ≡ None → Acted w n finish (Err e) m
      → told p m.terminal (deed (get_or acts i d)) (Err e) (is_torn m.session.standing) after → Onward x m q after (deeds (take (i + 1) acts))
  onward-back x y q p acts i d lt past how n m e after does is act now =
      let bare = subst (λ (o : Option Outcome). Performed w y (deed (get_or acts i d)) o n) is does in
      onward-more x y q p acts i d lt past (Err e) m after (subst (λ (b : Act). Acted w y b (Err e) m) (sym bare.0) (subst (λ (k : State T H). Acted w k finish (Err e) m) bare.1 act)) (ap (λ (b : Act). closes b (Err e)) bare.0) now

  module _ (meant : Meant w) (setup : Setup) (t : T) (h : H) (o : O) (x : State T H) (r : Outcome) (q : O) (before : List ℕ) (made : Created w setup t h before r x) (now : told o x.terminal create r (is_torn x.session.standing) q) (acts : List declared.Act) where
    abbrev z : Settings
    z = settled_by setup (w.extent t)

    start : Lasting told w z t h o [] true (moment_of x made.steps.0) q
    start = lasting-none told w z t h o r (moment_of x made.steps.0) q made.steps.1.step now

    observed : (done left : List Act) (alive : Bool) (m : Moment T H) (p : O) (s : Option Session) (b : Tables) → deeds acts ≡ done ++ left → (alive ≡ true → left ≡ []) → Lasting told w z t h o done alive m p → Leaves told s b m → Observed told w z t h (deeds acts) alive m.terminal m.highlighter o p s b
    unfolding ran
    observed done left alive m p s b given whole past leaves = record {
      ran = ran w z meant (raw-shown setup.prompt) (styled-shown setup.prompt) t h (deeds acts) done left alive m refl given whole past.history;
      heard = past.heard;
      leaves = leaves;
    }

    -- all acts are done
    pub ran-all : (y : State T H) (p : O) → Onward x y q p (deeds acts) → Observed told w z t h (deeds acts) true y.terminal y.highlighter o p (Some y.session) y.tables
    ran-all y p past =
        let end = past.history z t h o made.steps.0 made.settings start in
        observed (deeds acts) [] true (moment_of y end.0) p (Some y.session) y.tables (sym (append-nil (deeds acts))) (λ _. refl) end.1 (end.0, refl)

    -- a finish was accepted
    pub ran-ended : (y : State T H) (p : O) (i : ℕ) (d : declared.Act) (u : T) (k : H) (c : Tables) (after : O) → i < length acts → deed (get_or acts i d) ≡ finish → Ended w y u k c → SameTexts y.tables c → told p u finish (Ok tt) false after → Onward x y q p (deeds (take i acts)) → Observed told w z t h (deeds acts) false u k o after None c
    ran-ended y p i d u k c after lt is end same heard past =
        let before = past.history z t h o made.steps.0 made.settings start in
        observed (deeds (take i acts) ++ (finish ∷ [])) (deeds (drop (suc i) acts)) false
        (record { terminal = u; highlighter = k; page = closed (geometry w.columns y.session.size) (prompt_of y.tables) (page_of y.session y.tables before.0); torn = false }) after None c
        (deeds-parts acts (suc i) ∙ ap (λ (l : List Act). l ++ deeds (drop (suc i) acts)) (deeds-more acts i d lt ∙ ap (λ (b : Act). deeds (take i acts) ++ (b ∷ [])) is))
        (λ e. absurd (clash e)) (ended-history told w z t h o (deeds (take i acts)) y u k c p after (past.settings ∙ made.settings) past.sound end heard before.0 before.1)
        (record { line = ap line_of same.line; pos = ap (λ (l : LineBuffer). l.pos) same.line; note = ap note_of same.note; hint = ap note_of same.hint })

    -- a finish that is accepted, where nothing else was done
    pub ran-closed : (y : State T H) (p : O) (i : ℕ) (d : declared.Act) → i < length acts → Onward x y q p (deeds (take i acts))
        → (how : Option Outcome) (n : State T H) (u : T) (k : H) (b : Tables) (after : O) → Performed w y (deed (get_or acts i d)) how n → how ≡ None → Ended w n u k b → SameTexts n.tables b
        → told p u (deed (get_or acts i d)) (Ok tt) false after → Observed told w z t h (deeds acts) false u k o after None b
    ran-closed y p i d lt past how n u k b after does is end same heard =
        let bare = subst (λ (e : Option Outcome). Performed w y (deed (get_or acts i d)) e n) is does in
        ran-ended y p i d u k b after lt bare.0 (subst (λ (s : State T H). Ended w s u k b) bare.1 end) (subst (λ (s : State T H). SameTexts s.tables b) bare.1 same) (subst (λ (a : Act). told p u a (Ok tt) false after) bare.0 heard) past

    -- no act is left
    pub ran-over : (y : State T H) (p : O) (i : ℕ) → length acts ≤ i → Onward x y q p (deeds (take i acts)) → Observed told w z t h (deeds acts) true y.terminal y.highlighter o p (Some y.session) y.tables
    ran-over y p i all past = ran-all y p (subst (λ (l : List declared.Act). Onward x y q p (deeds l)) (take_all i acts all) past)

    -- a session that lives on belongs to its tables, and has what was settled
    pub kept-over : (y : State T H) (p : O) (done : List Act) → Onward x y q p done → Kept w.columns z (Some y.session) y.tables
    kept-over y p done past = (past.sound, past.settings ∙ made.settings)
