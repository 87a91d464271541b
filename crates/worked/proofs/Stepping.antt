-- The examples about steps.
use Rattle.std.proofs.Common.{◌≡◌, ℕ, ◌-◌, Bool, cond, List, [], ◌∷◌, ◌++◌, length, take, Ok, Err, Result, refl, sym, ap, ◌∙◌, append-nil}
use Rattle.page.specs.Law.{Settings, World, Written, broke, done, geometry_of, later, next}
use Rattle.page.specs.Page.{block_text}
use Rattle.page.specs.declared.outcome.BrokenAct.{BrokenAct}
use Rattle.screen.specs.Screen.{Paper, block, over}
use Rattle.worked.specs.Steps.{Told, WorkedAsks, WorkedRuns, WorkedSteps}

-- of two lists in a row the first is the front
front : {A : Type 0} (xs ys : List A) → xs ≡ take (length xs) (xs ++ ys)
front [] ys = refl
front (x ∷ xs) ys = ap (λ l. x ∷ l) (front xs ys)

module _ {T H : Type 0} (w : World T H) (z : Settings) where
  abbrev Tells : T → List (List ℕ) → Result Unit BrokenAct → T → Type 0
  Tells s ws (Ok u) t = Unit {0}
  Tells s ws (Err e) t = Told w z s ws e t

  number-tells : (s t : T) (ws : List (List ℕ)) (r : Result Unit BrokenAct) → Written w.answered s ws r t → Tells s ws r t
  number-tells s t ws r done = tt
  number-tells s t ws r (next h k) = tt
  number-tells s t ws r (later {t = u} {ws = vs} {n = n} {e = f} h k) =
      let x = number-tells u t vs (Err (record { number = n; write = f })) k in
      record { before = x.before; text = x.text; taken = next h x.taken; at = x.at; ends = x.ends }
  number-tells s t ws r (broke {w = v} h) = record { before = s; text = v; taken = done; at = refl; ends = h }

  pub worked-asks : WorkedAsks w z
  worked-asks = record {
    hinter = refl;
    hint-new = λ m n l x g. g.hint;
    finish-none = λ p q h k b a. a;
    notice-none = λ t p q h k b a. a;
    stays-none = λ x p q h k b e a. rw e at a;
    moves-asks = λ x p q h k b c e a. rw c at (rw e at a);
    set-asks = λ l x p q h k b c a. rw c at a;
    uncoloured = λ l x p q h k b c a. rw c at a;
  }

  pub worked-steps : WorkedSteps w z
  worked-steps = record {
    refused = λ m n a e s. s.1;
    sizes = λ m s. s;
    message-drawn = λ t r p q. refl;
    clear-drawn = λ r p q. refl;
    prompt-lit = λ h q r c. c.prompt;
    number = λ s t ws e x. number-tells s t ws (Err e) x;
    done-first = λ t u h k acts alive g. front g.done g.left ∙ ap (take (length g.done)) (sym g.given);
    done-all = λ t u h k acts g. sym (g.given ∙ ap (λ l. g.done ++ l) (g.whole refl) ∙ append-nil g.done);
  }

  pub worked-runs : WorkedRuns w z
  unfolding over
  worked-runs = record {
    begin-acts = refl;
    no-second = λ e es c. c.0;
    not-made = λ e x. x;
    close-acts = refl;
    close-refused = refl;
    ready-ended = λ m es h e. h.ready e;
    torn-accepted = refl;
    torn-refused = λ b. refl;
    torn-broken = λ b. refl;
    torn-refuses = λ m n o x t. x.others t refl;
    torn-not-yet = λ t h. refl;
    last-two = λ m e f. refl;
    rows-above = λ p s i j x e. ap (λ (q : Paper). q i j) x.paper ∙ ap (λ (b : Bool). cond b (p.upper i) ((block (geometry_of w z) (block_text z.prompt p)).paper (i - p.base)) j) e;
  }
