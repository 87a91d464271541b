-- Acts of a session, one after the other, are a run.
use Rattle.std.proofs.Common.{◌≡◌, Bool, true, false, not, List, [], ◌∷◌, ◌++◌, Ok, sym, refl, ap, ◌∙◌, subst}
use Rattle.page.proofs.Running.{history-more, history-none}
use Rattle.page.specs.Acts.{Act, closed, create, finish}
use Rattle.page.specs.Law.{Entry, Moment, Settings, Stepped, World}
use Rattle.page.specs.Rules.{Outcome}
use Rattle.page.specs.Runs.{History, beginning, begins, closes}
use Rattle.session.specs.Acting.{Acted}
use Rattle.running.specs.Observing.{Told}
use Rattle.session.specs.Finishing.{Ended}
use Rattle.session.specs.Sessions.{Sound, State, View, is_torn, moment_of, page_of, prompt_of, settings_of}
use Rattle.session.specs.declared.tables.Tables.{Tables}
use Rattle.terminal.specs.Windows.{geometry}

module _ {T H O : Type 0} (told : O → T → Act → Outcome → Bool → O → Type 0) where
  -- one entry more
  pub told-more : (o : O) (es : List (Entry T H)) (q p : O) (e : Entry T H) → Told told o es q → told q e.after.terminal e.act e.outcome e.after.torn p → Told told o (es ++ (e ∷ [])) p
  told-more o [] q p e before now = (p, subst (λ x. told x e.after.terminal e.act e.outcome e.after.torn p) before now, refl)
  told-more o (x ∷ es) q p e before now = (before.0, before.1, told-more before.0 es q p e before.2 now)

  module _ (w : World T H) (z : Settings) (t : T) (h : H) (o : O) where
    -- a session so far, and an observer told of each of its acts
    pub record Lasting (acts : List Act) (alive : Bool) (m : Moment T H) (p : O) : Type 0 where
      pub history : History w z t h acts alive m
      pub heard : Told told o (history.first ∷ history.others) p

    pub lasting-none : (r : Outcome) (n : Moment T H) (p : O) → Stepped w z (beginning t h) create r n → told o n.terminal create r n.torn p → Lasting [] true n p
    unfolding history-none
    lasting-none r n p s now = record { history = history-none w z t h r n s; heard = (p, now, refl) }

    lasting-more : (acts : List Act) (m n : Moment T H) (a : Act) (r : Outcome) (q p : O) → Lasting acts true m q → begins a ≡ false → Stepped w z m a r n → told q n.terminal a r n.torn p → Lasting (acts ++ (a ∷ [])) (not (closes a r)) n p
    unfolding history-more
    lasting-more acts m n a r q p past b s now = record {
      history = history-more w z t h acts m n a r past.history b s;
      heard = told-more o (past.history.first ∷ past.history.others) q p (record { act = a; outcome = r; after = n }) past.heard now;
    }

    -- one act more
    pub acted-history : (acts : List Act) (x y : State T H) (a : Act) (r : Outcome) (q p : O) → settings_of x.session x.tables ≡ z → Sound w.columns x.session x.tables → begins a ≡ false → closes a r ≡ false → Acted w x a r y
        → told q y.terminal a r (is_torn y.session.standing) p → (v : View) → Lasting acts true (moment_of x v) q → (u : View) × Lasting (acts ++ (a ∷ [])) true (moment_of y u) p
    acted-history acts x y a r q p same sound later live act now v past =
        let st = act.steps sound v in
        (st.0, subst (λ b. Lasting (acts ++ (a ∷ [])) (not b) (moment_of y st.0) p) live (lasting-more acts (moment_of x v) (moment_of y st.0) a r q p past later (subst (λ (k : Settings). Stepped w k (moment_of x v) a r (moment_of y st.0)) same st.1.step) now))

    -- an accepted finish
    pub ended-history : (acts : List Act) (x : State T H) (u : T) (k : H) (c : Tables) (q p : O) → settings_of x.session x.tables ≡ z → Sound w.columns x.session x.tables → Ended w x u k c → told q u finish (Ok tt) false p → (v : View) → Lasting acts true (moment_of x v) q
        → Lasting (acts ++ (finish ∷ [])) false (record { terminal = u; highlighter = k; page = closed (geometry w.columns x.session.size) (prompt_of x.tables) (page_of x.session x.tables v); torn = false }) p
    ended-history acts x u k c q p same sound end now v past =
        lasting-more acts (moment_of x v) (record { terminal = u; highlighter = k; page = closed (geometry w.columns x.session.size) (prompt_of x.tables) (page_of x.session x.tables v); torn = false }) finish (Ok tt) q p past refl
        (subst (λ (s : Settings). Stepped w s (moment_of x v) finish (Ok tt) (record { terminal = u; highlighter = k; page = closed (geometry w.columns x.session.size) (prompt_of x.tables) (page_of x.session x.tables v); torn = false })) same (end sound v).step) now

-- an act under another name
pub performed : {T H : Type 0} (w : World T H) (x y : State T H) (a d : Act) (r : Outcome) → a ≡ d → closes d r ≡ false → Acted w x d r y → Acted w x a r y × (closes a r ≡ false)
performed w x y a d r is live act = (subst (λ (b : Act). Acted w x b r y) (sym is) act, ap (λ (b : Act). closes b r) is ∙ live)
