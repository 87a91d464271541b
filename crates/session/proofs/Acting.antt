-- Acts from what was judged, asked and drawn.
use Rattle.std.proofs.Common.{◌≡◌, ℕ, true, List, is_err, Some, None, Ok, Err, Result, refl, arith}
use Rattle.page.specs.Acts.{Act}
use Rattle.page.specs.Law.{Moment, Refusing, Settings, Went, World, geometry_of}
use Rattle.page.specs.declared.outcome.BrokenAct.{BrokenAct}
use Rattle.page.specs.declared.outcome.Rejection.TheVariants.{Broke, Refused}
use Rattle.session.specs.Acting.{Acted, LeavesLayout, outcome_of}
use Rattle.session.specs.Buffering.{Buffered, buffer_after, buffer_of}
use Rattle.session.specs.Judging.{RefusesAct}
use Rattle.session.specs.Sessions.{Sound, State, View, moment_of, settings_of}
use Rattle.text.specs.declared.refusal.Refusal.{Refusal}

-- the end of writes is no refusal
pub not-refused : (r : Result Unit BrokenAct) (e : Refusal) → outcome_of r ≡ Err (Refused e) → ⊥
not-refused (Ok u) e q = let z : ◌≡◌ {A = ℕ} 0 1 = cc in omega arith
not-refused (Err b) e q = let z : ◌≡◌ {A = ℕ} 0 1 = cc in omega arith

-- an act broke where its writes did
broke-is : (r : Result Unit BrokenAct) (b : BrokenAct) → outcome_of r ≡ Err (Broke b) → is_err r ≡ true
broke-is (Ok u) b q = absurd (let z : ◌≡◌ {A = ℕ} 0 1 = cc in omega arith)
broke-is (Err e) b q = refl

pub outcome-err : (r : Result Unit BrokenAct) → is_err (outcome_of r) ≡ true → is_err r ≡ true
outcome-err (Ok u) e = e
outcome-err (Err b) e = e

module _ {T H : Type 0} (w : World T H) where
  -- an act that no rule refuses went by the law, and the draw buffer before and after it
  pub record WentBuffered (z : Settings) (m : Moment T H) (a : Act) (r : Result Unit BrokenAct) (before after : List ℕ) (n : Moment T H) : Type 0 where
    pub went : Went w z m a r n
    pub buffer : after ≡ buffer_after (geometry_of w z) z.prompt a went.replies m.page n.page before

  -- an act that a rule refuses alters nothing
  pub refused-acted : (x : State T H) (a : Act) (e : Refusal) → (Sound w.columns x.session x.tables → RefusesAct w.columns x.session x.tables (w.extent x.terminal) a (Some e)) → Acted w x a (Err (Refused e)) x
  refused-acted x a e h = record {
    settings = refl;
    refused = λ _ _. refl;
    broken = λ b q. absurd (let z : ◌≡◌ {A = ℕ} 0 1 = cc in omega arith);
    sound = λ s. s;
    steps = λ s v. (v, record { step = (h s v, refl); buffer = refl });
  }

  pub stepped-went : (z : Settings) (m n : Moment T H) (a : Act) (r : Result Unit BrokenAct) (before after : List ℕ) → Refusing w z m a None → WentBuffered z m a r before after n → Buffered w z m a (outcome_of r) n before after
  stepped-went z m n a (Ok u) before after h g = record { step = (h, g.went); buffer = g.buffer }
  stepped-went z m n a (Err b) before after h g = record { step = (h, g.went); buffer = g.buffer }

  -- an act that no rule refuses
  pub went-acted : (x y : State T H) (a : Act) (r : Result Unit BrokenAct) → settings_of y.session y.tables ≡ settings_of x.session x.tables
      → (is_err r ≡ true → LeavesLayout a x.session.layout y.session.layout)
      → (Sound w.columns x.session x.tables → Sound w.columns y.session y.tables)
      → (Sound w.columns x.session x.tables → RefusesAct w.columns x.session x.tables (w.extent x.terminal) a None)
      → (Sound w.columns x.session x.tables → (v : View) → (u : View) × WentBuffered (settings_of x.session x.tables) (moment_of x v) a r (buffer_of x.tables) (buffer_of y.tables) (moment_of y u))
      → Acted w x a (outcome_of r) y
  went-acted x y a r same layout sound judged went = record {
    settings = same;
    refused = λ e q. absurd (not-refused r e q);
    broken = λ b q. layout (broke-is r b q);
    sound = sound;
    steps = λ s v. let g = went s v in (g.0, stepped-went (settings_of x.session x.tables) (moment_of x v) (moment_of y g.0) a r (buffer_of x.tables) (buffer_of y.tables) (judged s v) g.1);
  }
