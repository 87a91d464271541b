-- A run grows by one act at its end, and every run has the law.
use borrow.Author.Tests.{clash}
use Rattle.std.proofs.Common.{◌≡◌, Bool, true, false, not, ◌||◌, List, [], ◌∷◌, ◌++◌, Some, Ok, Err, sym, refl, ap, ◌∙◌, subst, append_assoc}
use Rattle.page.proofs.Admitting.{some-none, unrefused}
use Rattle.page.proofs.Chaining.{closes-is, law-of-chains}
use Rattle.page.proofs.Delivering.{delivered}
use Rattle.page.specs.Acts.{Act, create, finish}
use Rattle.page.specs.Law.{Entry, Moment, Settings, SizeFine, Stepped, World, geometry_of}
use Rattle.page.specs.Meaning.{Meant}
use Rattle.page.specs.Page.{Page}
use Rattle.page.specs.Rules.{Outcome}
use Rattle.page.specs.Runs.{Continues, History, Holds, Linked, Made, Prepared, Ran, acts_of, beginning, begins, closes, empty_page, finishes, last_of}
use Rattle.page.specs.declared.outcome.Rejection.TheVariants.{Broke, Refused}
use Rattle.terminal.specs.Windows.{Ready}
use Rattle.text.specs.Texts.{Styled}

or-false : (b c : Bool) → (b || c) ≡ false → (b ≡ false) × (c ≡ false)
or-false true c e = absurd (clash (sym e))
or-false false c e = (refl, e)

pub twice-not : (b : Bool) → b ≡ not (not b)
twice-not true = refl
twice-not false = refl

-- the first of the acts left is done
pub given-more : (acts done left : List Act) (a : Act) → acts ≡ done ++ (a ∷ left) → acts ≡ (done ++ (a ∷ [])) ++ left
given-more acts done left a e = e ∙ sym (append_assoc done (a ∷ []) left)

module _ {T H : Type 0} where
  pub acts-more : (es : List (Entry T H)) (e : Entry T H) → acts_of (es ++ (e ∷ [])) ≡ acts_of es ++ (e.act ∷ [])
  acts-more [] e = refl
  acts-more (x ∷ es) e = ap (λ (l : List Act). x.act ∷ l) (acts-more es e)

  pub finishes-more : (es : List (Entry T H)) (e : Entry T H) → finishes es ≡ false → finishes (es ++ (e ∷ [])) ≡ closes e.act e.outcome
  finishes-more [] e f = or-none (closes e.act e.outcome)
    where
      or-none : (b : Bool) → (b || false) ≡ b
      or-none true = refl
      or-none false = refl
  finishes-more (x ∷ es) e f =
      let k = or-false (closes x.act x.outcome) (finishes es) f in
      ap (λ b. b || finishes (es ++ (e ∷ []))) k.0 ∙ finishes-more es e k.1

module _ {T H : Type 0} (w : World T H) (z : Settings) where
  -- one more entry at the end of a history
  pub linked-more : (m : Moment T H) (es : List (Entry T H)) (e : Entry T H) → Linked w z m es → Stepped w z (last_of w z m es) e.act e.outcome e.after → Linked w z m (es ++ (e ∷ []))
  linked-more m [] e l s = (s, tt)
  linked-more m (x ∷ es) e l s = (l.0, linked-more x.after es e l.1 s)

  pub last_more : (m : Moment T H) (es : List (Entry T H)) (e : Entry T H) → last_of w z m (es ++ (e ∷ [])) ≡ e.after
  last_more m [] e = refl
  last_more m (x ∷ es) e = last_more x.after es e

  pub continues-more : (es : List (Entry T H)) (e : Entry T H) → Continues w z es → finishes es ≡ false → begins e.act ≡ false → Continues w z (es ++ (e ∷ []))
  continues-more [] e c f b = (b, (λ _. refl), tt)
  continues-more (x ∷ es) e c f b =
      let k = or-false (closes x.act x.outcome) (finishes es) f in
      (c.0, (λ y. absurd (clash (sym k.0 ∙ y))), continues-more es e c.2 k.1 b)

  -- a session after create
  unfoldable pub history-none : (t : T) (h : H) (o : Outcome) (n : Moment T H) → Stepped w z (beginning t h) create o n → History w z t h [] true n
  history-none t h o n s = record { first = record { act = create; outcome = o; after = n }; others = []; creates = refl; does = refl; linked = (s, tt); continues = tt; ended = refl; leaves = refl }

  -- and after one more act
  unfoldable pub history-more : (t : T) (h : H) (acts : List Act) (m n : Moment T H) (a : Act) (o : Outcome) → History w z t h acts true m → begins a ≡ false → Stepped w z m a o n → History w z t h (acts ++ (a ∷ [])) (not (closes a o)) n
  history-more t h acts m n a o y b s =
      let e : Entry T H = record { act = a; outcome = o; after = n } in
      record {
        first = y.first;
        others = y.others ++ (e ∷ []);
        creates = y.creates;
        does = acts-more y.others e ∙ ap (λ (l : List Act). l ++ (a ∷ [])) y.does;
        linked = linked-more (beginning t h) (y.first ∷ y.others) e y.linked (subst (λ (x : Moment T H). Stepped w z x a o n) (sym y.leaves) s);
        continues = continues-more y.others e y.continues y.ended b;
        ended = finishes-more y.others e y.ended ∙ twice-not (closes a o);
        leaves = last_more (beginning t h) (y.first ∷ y.others) e;
      }

  -- no step alters the terminal's size
  pub step-size : Meant w → (m n : Moment T H) (a : Act) (o : Outcome) → Stepped w z m a o n → w.extent n.terminal ≡ w.extent m.terminal
  step-size meant m n a (Ok u) s = (delivered w meant (w.extent m.terminal) m.terminal n.terminal _ (Ok tt) refl s.1.written).size
  step-size meant m n a (Err (Refused e)) s = ap (λ (x : Moment T H). w.extent x.terminal) s.1
  step-size meant m n a (Err (Broke b)) s = (delivered w meant (w.extent m.terminal) m.terminal n.terminal _ (Err b) refl s.1.written).size

  -- on a prepared terminal no rule refuses create
  create-made : (t : T) (h : H) (o : Outcome) (n : Moment T H) → z.begun ≡ w.extent t → Prepared w z t → Stepped w z (beginning t h) create o n → Made w z o
  create-made t h (Ok u) n b p s = tt
  create-made t h (Err (Refused e)) n b p s =
      some-none (sym (unrefused (geometry_of w z) z.prompt false (SizeFine w z (beginning t h)) create empty_page (Some e)
      (record { untorn = refl; size = (p.size, b ∙ p.size); text = tt; short = tt; place = tt; height = p.height }) s.0))
  create-made t h (Err (Broke x)) n b p s = tt

  -- the page after an accepted finish has ended
  finish-ended : (m n : Moment T H) → Stepped w z m finish (Ok tt) n → n.page.ended ≡ true
  finish-ended m n s = ap (λ (p : Page). p.ended) s.1.page

  finishes-ended : (es : List (Entry T H)) (m : Moment T H) → Linked w z m es → Continues w z es → finishes es ≡ true → (last_of w z m es).page.ended ≡ true
  finishes-ended [] m l c f = absurd (clash f)
  finishes-ended (e ∷ es) m l c f = pick (closes e.act e.outcome) refl f (finishes-ended es e.after l.1 c.2)
    where
      pick : (b : Bool) → closes e.act e.outcome ≡ b → (b || finishes es) ≡ true → (finishes es ≡ true → (last_of w z e.after es).page.ended ≡ true) → (last_of w z e.after es).page.ended ≡ true
      pick true k g ih =
          let i = closes-is e.act e.outcome k in
          let s : Stepped w z m finish (Ok tt) e.after = subst (λ o. Stepped w z m finish o e.after) i.1 (subst (λ a. Stepped w z m a e.outcome e.after) i.0 l.0) in
          subst (λ (xs : List (Entry T H)). (last_of w z e.after xs).page.ended ≡ true) (sym (c.1 k)) (finish-ended m e.after s)
      pick false k g ih = ih g

  module _ (meant : Meant w) (raw_shown : Styled z.raw z.prompt) (styled_shown : Styled z.styled z.prompt) where
    -- the law of a run, and its terminal after an accepted finish
    pub ran-law : (t : T) (h : H) (acts : List Act) (alive : Bool) (m : Moment T H) (y : History w z t h acts alive m) → z.begun ≡ w.extent t → Prepared w z t → Holds w z (beginning t h) (y.first ∷ y.others)
    ran-law t h acts alive m y b p =
        let s : Stepped w z (beginning t h) create y.first.outcome y.first.after = subst (λ a. Stepped w z (beginning t h) a y.first.outcome y.first.after) y.creates y.linked.0 in
        law-of-chains w z meant raw_shown styled_shown (beginning t h) y.first y.others p.size p.ready (ap begins y.creates)
        (create-made t h y.first.outcome y.first.after b p s) y.linked y.continues

    pub ran-ready : (t : T) (h : H) (acts : List Act) (m : Moment T H) → History w z t h acts false m → z.begun ≡ w.extent t → Prepared w z t → Ready (w.screen m.terminal)
    ran-ready t h acts m y b p =
        subst (λ (x : Moment T H). Ready (w.screen x.terminal)) y.leaves ((ran-law t h acts false m y b p).ready (finishes-ended y.others y.first.after y.linked.1 y.continues y.ended))

    -- a session whose acts are a front of the given ones is a run
    unfoldable pub ran : (t : T) (h : H) (acts done left : List Act) (alive : Bool) (m : Moment T H) → z.begun ≡ w.extent t → acts ≡ done ++ left → (alive ≡ true → left ≡ []) → History w z t h done alive m → Ran w z t h acts alive m.terminal m.highlighter
    ran t h acts done left alive m b g r y =
        record {
          begun = b;
          done = done;
          left = left;
          given = g;
          whole = r;
          last = m;
          history = y;
          terminal = refl;
          highlighter = refl;
          law = ran-law t h done alive m y b;
          ready = λ p e. ran-ready t h done m (subst (λ x. History w z t h done x m) e y) b p;
        }
