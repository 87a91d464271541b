-- Every chain of steps has the law.
use Rattle.std.proofs.Common.{◌≡◌, ℕ, Bool, true, false, List, [], ◌∷◌, Some, None, Ok, Err, sym, refl, ap, ◌∙◌, subst, arith}
use borrow.Author.Tests.{clash}
use Rattle.page.proofs.Admitting.{some-none, torn-refused}
use Rattle.page.proofs.Lawful.{Sane, create-sane, finish-shown, step-sane}
use Rattle.page.specs.Acts.{Act, clear, create, finish, go, insert, message, notice, refresh, set}
use Rattle.page.specs.Law.{Entry, Moment, Settings, Shown, SizeFine, Stepped, Tears, World, geometry_of}
use Rattle.page.specs.Meaning.{Meant}
use Rattle.page.specs.Rules.{Outcome, mends}
use Rattle.page.specs.Runs.{Continues, Holds, LawOfChains, Linked, Made, begins, closes}
use Rattle.page.specs.declared.outcome.Rejection.TheVariants.{Broke, Refused}
use Rattle.screen.specs.Bytes.{act}
use Rattle.terminal.specs.Limits.{proper}
use Rattle.terminal.specs.Windows.{Ready}
use Rattle.text.specs.Texts.{Styled}
use Rattle.text.specs.declared.refusal.Refusal.{Refusal}
use Rattle.text.specs.declared.refusal.Refusal.TheVariants.{Torn}

ends-not : (a : Act) (o : Outcome) → closes a o ≡ false → (a ≡ finish) × (o ≡ Ok tt) → ⊥
ends-not a o e (f, g) = clash (sym e ∙ ap (λ x. closes x o) f ∙ ap (closes finish) g)

begins-not : (a : Act) → begins a ≡ false → a ≡ create → ⊥
begins-not a e f = clash (sym e ∙ ap begins f)

begins-is : (a : Act) → begins a ≡ true → a ≡ create
begins-is create e = refl
begins-is (insert c n) e = absurd (clash e)
begins-is (set l q) e = absurd (clash e)
begins-is (go q) e = absurd (clash e)
begins-is refresh e = absurd (clash e)
begins-is (message t) e = absurd (clash e)
begins-is (notice t) e = absurd (clash e)
begins-is clear e = absurd (clash e)
begins-is finish e = absurd (clash e)

pub closes-is : (a : Act) (o : Outcome) → closes a o ≡ true → (a ≡ finish) × (o ≡ Ok tt)
closes-is create o e = absurd (clash e)
closes-is (insert c n) o e = absurd (clash e)
closes-is (set l q) o e = absurd (clash e)
closes-is (go q) o e = absurd (clash e)
closes-is refresh o e = absurd (clash e)
closes-is (message t) o e = absurd (clash e)
closes-is (notice t) o e = absurd (clash e)
closes-is clear o e = absurd (clash e)
closes-is finish (Ok u) e = (refl, refl)
closes-is finish (Err x) e = absurd (clash e)

module _ {T H : Type 0} (w : World T H) (z : Settings) where
  -- a step alters whether the session is torn as the law says
  pub step-tears : (m n : Moment T H) (a : Act) (o : Outcome) → Stepped w z m a o n → Tears w z m a o n
  step-tears m n a (Ok u) s = record { after = s.1.torn; others = λ t k. some-none (torn-refused (geometry_of w z) z.prompt m.torn (SizeFine w z m) a m.page None t k s.0) }
  step-tears m n a (Err (Refused e)) s =
      let f : m.torn ≡ true → mends a ≡ false → Some e ≡ Some Torn = λ t k. torn-refused (geometry_of w z) z.prompt m.torn (SizeFine w z m) a m.page (Some e) t k s.0 in
      record { after = ap (λ (x : Moment T H). x.torn) s.1; others = λ t k. same e (f t k) }
    where
      same : (e : Refusal) → Some e ≡ Some Torn → ◌≡◌ {A = Outcome} (Err (Refused e)) (Err (Refused Torn))
      same e h = let g : e ≡ Torn = cc in ap (λ x. Err (Refused x)) g
  step-tears m n a (Err (Broke b)) s = record { after = s.1.torn; others = λ t k. some-none (torn-refused (geometry_of w z) z.prompt m.torn (SizeFine w z m) a m.page None t k s.0) }

module _ {T H : Type 0} (w : World T H) (z : Settings) (meant : Meant w) (raw_shown : Styled z.raw z.prompt) (styled_shown : Styled z.styled z.prompt) where
  -- the last entry of a run, an accepted finish
  ends_with : (m : Moment T H) (e : Entry T H) → Sane w z meant raw_shown styled_shown m → Stepped w z m e.act e.outcome e.after → closes e.act e.outcome ≡ true → Shown w z e.after × Ready (w.screen e.after.terminal)
  ends_with m e s st c =
      let k = closes-is e.act e.outcome c in
      finish-shown w z meant raw_shown styled_shown m e.after s (subst (λ o. Stepped w z m finish o e.after) k.1 (subst (λ a. Stepped w z m a e.outcome e.after) k.0 st))

  sane-live : (m : Moment T H) → Sane w z meant raw_shown styled_shown m → m.page.ended ≡ true → ⊥
  sane-live m s e = clash (sym s.page.proper.live ∙ e)

  one_more : (e : Entry T H) (es : List (Entry T H)) → Shown w z e.after × Ready (w.screen e.after.terminal) → es ≡ [] → (m : Moment T H) → Stepped w z m e.act e.outcome e.after → Holds w z m (e ∷ es)
  one_more e es x k m st = subst (λ (xs : List (Entry T H)). Holds w z m (e ∷ xs)) (sym k) (record { lived = (record { step = st; shown = x.0; tears = step-tears w z m e.after e.act e.outcome st }, tt); ready = λ _. x.1 })

  pub chain-holds : (es : List (Entry T H)) (m : Moment T H) → Sane w z meant raw_shown styled_shown m → Linked w z m es → Continues w z es → Holds w z m es
  chain-holds [] m s l c = record { lived = tt; ready = λ e. absurd (sane-live m s e) }
  chain-holds (e ∷ es) m s l c = pick (closes e.act e.outcome) refl (λ n x. chain-holds es e.after n l.1 c.2)
    where
      pick : (b : Bool) → closes e.act e.outcome ≡ b → ((n : Sane w z meant raw_shown styled_shown e.after) → closes e.act e.outcome ≡ false → Holds w z e.after es) → Holds w z m (e ∷ es)
      pick true k ih = one_more e es (ends_with m e s l.0 k) (c.1 k) m l.0
      pick false k ih =
          let n = step-sane w z meant raw_shown styled_shown m e.after e.act e.outcome s (begins-not e.act c.0) (ends-not e.act e.outcome k) l.0 in
          let h = ih n k in
          record { lived = (record { step = l.0; shown = n.shown; tears = step-tears w z m e.after e.act e.outcome l.0 }, h.lived); ready = h.ready }

  not-refused : (o : Outcome) → Made w z o → (x : Refusal) → o ≡ Err (Refused x) → ⊥
  not-refused (Ok u) d x e = let q : ◌≡◌ {A = ℕ} 0 1 = cc in omega arith
  not-refused (Err (Refused y)) d x e = d
  not-refused (Err (Broke b)) d x e = let q : ◌≡◌ {A = ℕ} 0 1 = cc in omega arith

  pub law-of-chains : LawOfChains w z
  law-of-chains m e es size ready b made l c =
      let n = create-sane w z meant raw_shown styled_shown m e.after e.outcome size ready (not-refused e.outcome made) (subst (λ a. Stepped w z m a e.outcome e.after) (begins-is e.act b) l.0) in
      let h = chain-holds es e.after n l.1 c in
      record { lived = (record { step = l.0; shown = n.shown; tears = step-tears w z m e.after e.act e.outcome l.0 }, h.lived); ready = h.ready }
