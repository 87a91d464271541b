-- What follows from the course of a call. Assumes nothing.
use Rattle.std.specs.Prelude.{◌≡◌, ℕ, ◌≤◌, min, List, length, take, Some, None, Ok, Err, Option, ◌==◌, refl}
use Rattle.std.proofs.Common.{sym, ap, ◌∙◌, arith}
use Rattle.std.proofs.lemmas.Bool.{cond_both}
use Rattle.screen.specs.Screen.{Screen, Geometry}
use Rattle.screen.specs.Bytes.{feed}
use Rattle.terminal.specs.Answers.{WriteAnswer, Worked, taken}
use Rattle.terminal.specs.declared.size.Size.{Size}
use Rattle.terminal.specs.Feeds.{worked-front}
use Rattle.std.specs.declared.ops.ControlFlow.TheVariants.{Continue, Break}
use Rattle.faults.specs.Faults.{Course, course_of, passing}
use Rattle.faults.specs.Faulty.{Follows}

-- what is passed on fits, and an answer of its own takes nothing
abbrev pub Fits : ℕ → ℕ → Course → Type 0
Fits n r (Continue k) = (k ≤ n) × (k ≤ r)
Fits n r (Break a) = taken a ≡ 0

passing-fits : (m n r : ℕ) → m ≤ n → Fits n r (passing m r)
passing-fits m n r le =
    cond_both (m == 0) _ _ (Fits n r) (λ _. refl)
    (λ _. cond_both (r == 0) _ _ (Fits n r) (λ _. refl) (λ _. (omega arith, omega arith)))

pub course-fits : (o : Option WriteAnswer) (n r : ℕ) → Fits n r (course_of o n r)
course-fits None n r = passing-fits n n r (omega arith)
course-fits (Some (Err e)) n r = refl
course-fits (Some (Ok k)) n r = passing-fits (min k n) n r (omega arith)

module _ {T : Type 0} (answered : T → List ℕ → WriteAnswer → T → Type 0) (s t : T) where
  -- just the bytes taken have worked
  pub course-worked : (d : Geometry) (screen : T → Screen) → ((bytes : List ℕ) (a : WriteAnswer) → answered s bytes a t → Worked d bytes (screen s) a (screen t)) → (c : Course) (bytes : List ℕ) (r : ℕ) (a : WriteAnswer) → Fits (length bytes) r c → Follows answered c s bytes a t → Worked d bytes (screen s) a (screen t)
  course-worked d screen works (Continue n) bytes r a fits h = worked-front d n bytes (screen s) (screen t) a (works (take n bytes) a h)
  course-worked d screen works (Break x) bytes r a fits h =
      let none : taken a ≡ 0 = ap taken h.0 ∙ fits in
      record { within = omega arith; drawn = ap screen h.1 ∙ ap (λ n. feed d (take n bytes) (screen s)) (sym none) }

  -- the size is as it was
  pub follows-fixed : (extent : T → Size) → ((bytes : List ℕ) (a : WriteAnswer) → answered s bytes a t → extent t ≡ extent s) → (c : Course) (bytes : List ℕ) (a : WriteAnswer) → Follows answered c s bytes a t → extent t ≡ extent s
  follows-fixed extent fixed (Continue n) bytes a h = fixed (take n bytes) a h
  follows-fixed extent fixed (Break x) bytes a h = ap extent h.1
