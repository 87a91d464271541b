-- What parameter bytes amount to, and what the final byte then does.
use Rattle.std.proofs.Common.{◌≡◌, ℕ, zero, suc, ◌+◌, ◌-◌, ◌*◌, ◌≤◌, min, max, Bool, true, false, cond, ◌&&◌, ◌||◌, eqb, leb, ◌≢◌, List, [], ◌∷◌, ◌++◌, codes, sym, refl, ap, ◌∙◌, arith}
use borrow.Author.Tests.{clash}
use Rattle.screen.proofs.Sequences.{feed-parameters, ground-is, params}
use Rattle.screen.specs.Bytes.{act, dropped, feed, finish, holding, into, is_digit, mode_byte, move, step, step_in, within}
use Rattle.screen.specs.Screen.{Geometry, Screen}
use Rattle.screen.specs.Sequences.{Reads, are_parameters, commands, number_from, sequence_does}
use Rattle.screen.specs.declared.cells.Parameters.{Parameters}
use Rattle.screen.specs.declared.cells.Parameters.TheVariants.{Bare, Mode, Number, Numbers, Other}
use Rattle.screen.specs.declared.cells.Parser.TheVariants.{Ground, Sequence}
use Rattle.std.proofs.lemmas.Bool.{and_left, and_parts, cond-false, cond-true, eq-eqb, le-ltb, leb-true, lt-ltb, ne_eqb}
use Rattle.std.proofs.lemmas.Bool.Decides.{nat_tests}
use Rattle.std.specs.Str.{bytes_eq}
use Rattle.text.specs.Texts.{plain}

-- the bytes of ?2026 from the k-th on, n of them
abbrev mode_from : ℕ → ℕ → List ℕ
mode_from k zero = []
mode_from k (suc n) = mode_byte k ∷ mode_from (suc k) n

module _ (d : Geometry) (f : ℕ) (s : Screen) where
  -- what h and l do behind ?2026
  abbrev held : Screen
  held = cond (eqb f 104) (holding true s) (cond (eqb f 108) (holding false s) (dropped s))

  act-other : (ps : List ℕ) → act d (params Other ps) f s ≡ dropped s
  unfolding act
  act-other [] = refl
  act-other (b ∷ bs) = act-other bs

  act-numbers : (n : ℕ) (ps : List ℕ) → act d (params (Numbers n) ps) f s ≡ cond (plain ps) (move d f (max 1 n) s) (dropped s)
  unfolding act
  act-numbers n [] = refl
  act-numbers n (b ∷ bs) = by (is_digit b || eqb b 59) (act-numbers n bs)
    where
      by : (x : Bool) → act d (params (Numbers n) bs) f s ≡ cond (plain bs) (move d f (max 1 n) s) (dropped s) → act d (params (cond x (Numbers n) Other) bs) f s ≡ cond (x && plain bs) (move d f (max 1 n) s) (dropped s)
      by true more = more
      by false more = act-other bs

  act-number : (n : ℕ) (ps : List ℕ) → act d (params (Number (min n 9999)) ps) f s ≡ cond (plain ps) (move d f (max 1 (min (number_from n ps) 9999)) s) (dropped s)
  unfolding act
  act-number n [] = refl
  act-number n (b ∷ bs) = by (is_digit b) (eqb b 59) (act-number (10 * n + (b - 48)) bs)
    where
      by : (x y : Bool) → act d (params (Number (min (10 * n + (b - 48)) 9999)) bs) f s ≡ cond (plain bs) (move d f (max 1 (min (number_from (10 * n + (b - 48)) bs) 9999)) s) (dropped s) → act d (params (cond x (Number (min (10 * min n 9999 + (b - 48)) 9999)) (cond y (Numbers (min n 9999)) Other)) bs) f s ≡ cond ((x || y) && plain bs) (move d f (max 1 (min (cond x (number_from (10 * n + (b - 48)) bs) n) 9999)) s) (dropped s)
      by true y more = ap (λ m. act d (params (Number m) bs) f s) (omega arith) ∙ more
      by false true more = act-numbers (min n 9999) bs
      by false false more = act-other bs

  act-mode : (n k : ℕ) (ps : List ℕ) → k + n ≡ 5 → act d (params (Mode k) ps) f s ≡ cond (bytes_eq ps (mode_from k n)) held (dropped s)
  unfolding act
  act-mode zero k [] e = cond-true (eqb k 5) held (dropped s) (eq-eqb k 5 (omega arith))
  act-mode (suc n) k [] e = cond-false (eqb k 5) held (dropped s) (ne_eqb k 5 (λ q. omega arith))
  act-mode zero k (b ∷ bs) e = ap (λ x. act d (params (cond (x && eqb b (mode_byte k)) (Mode (suc k)) Other) bs) f s) (le-ltb k 5 (omega arith)) ∙ act-other bs
  act-mode (suc n) k (b ∷ bs) e = ap (λ x. act d (params (cond (x && eqb b (mode_byte k)) (Mode (suc k)) Other) bs) f s) (lt-ltb k 5 (omega arith)) ∙ by (eqb b (mode_byte k)) (act-mode n (suc k) bs (omega arith))
    where
      by : (x : Bool) → act d (params (Mode (suc k)) bs) f s ≡ cond (bytes_eq bs (mode_from (suc k) n)) held (dropped s) → act d (params (cond x (Mode (suc k)) Other) bs) f s ≡ cond (x && bytes_eq bs (mode_from (suc k) n)) held (dropped s)
      by true more = more
      by false more = act-other bs

  -- only A, B, C and D move
  move-within : (n : ℕ) → move d f n s ≡ cond (within 65 68 f) (move d f n s) (dropped s)
  unfolding move
  move-within n = grind (arith, nat_tests)

  -- what a sequence with parameters does, by whether they are digits and semicolons, and whether they are ?2026
  abbrev behind : Bool → Bool → ℕ → Screen
  behind x y n = cond (x && within 65 68 f) (move d f n s) (cond (y && eqb f 104) (holding true s) (cond (y && eqb f 108) (holding false s) (dropped s)))

  behind-plain : (x y : Bool) (n : ℕ) → y ≡ false → cond x (move d f n s) (dropped s) ≡ behind x y n
  behind-plain x true n e = absurd (clash (sym e))
  behind-plain true false n e = move-within n
  behind-plain false false n e = refl

  behind-mode : (y : Bool) (n : ℕ) → cond y held (dropped s) ≡ behind false y n
  behind-mode true n = refl
  behind-mode false n = refl

  act-bare : act d Bare f s ≡ commands d [] f s
  unfolding act
  act-bare = grind (arith, nat_tests, move-within 1)

  -- the first parameter byte decides
  act-first : (b : ℕ) (bs : List ℕ) (x y z : Bool) → (x ≡ true → b ≤ 57) → ((x || y) ≡ true → z ≡ false) → act d (params (cond x (Number (b - 48)) (cond y (Numbers 0) (cond z (Mode 1) Other))) bs) f s ≡ behind ((x || y) && plain bs) (z && bytes_eq bs (codes "2026")) (max 1 (min (cond x (number_from (10 * 0 + (b - 48)) bs) 0) 9999))
  act-first b bs true y z low apart =
      ap (λ m. act d (params (Number m) bs) f s) (omega (arith, low refl))
      ∙ act-number (10 * 0 + (b - 48)) bs
      ∙ behind-plain (plain bs) (z && bytes_eq bs (codes "2026")) (max 1 (min (number_from (10 * 0 + (b - 48)) bs) 9999)) (and_left z (bytes_eq bs (codes "2026")) (apart refl))
  act-first b bs false true z low apart = act-numbers 0 bs ∙ behind-plain (plain bs) (z && bytes_eq bs (codes "2026")) 1 (and_left z (bytes_eq bs (codes "2026")) (apart refl))
  act-first b bs false false true low apart = act-mode 4 1 bs refl ∙ behind-mode (bytes_eq bs (codes "2026")) 1
  act-first b bs false false false low apart = act-other bs

  act-reads : (ps : List ℕ) → act d (params Bare ps) f s ≡ commands d ps f s
  act-reads [] = act-bare
  act-reads (b ∷ bs) = act-first b bs (is_digit b) (eqb b 59) (eqb b 63) (λ e. leb-true b 57 (and_parts (leb 48 b) (leb b 57) e).1) (λ e. ne_eqb b 63 (λ q. question b q e))
    where
      question : (b : ℕ) → b ≡ 63 → (is_digit b || eqb b 59) ≡ true → ⊥
      question b q e = let z : (is_digit 63 || eqb 63 59) ≡ true = rw q at e in clash z

step-final : (d : Geometry) (p : Parameters) (f : ℕ) (s : Screen) → within 64 126 f ≡ true → step d f (into (Sequence p) s) ≡ finish d p f (into (Sequence p) s)
unfolding step_in
step-final d p f s h = grind (arith, nat_tests)

step-broken : (d : Geometry) (p : Parameters) (b : ℕ) (s : Screen) → within 48 126 b ≡ false → b ≢ 27 → step d b (into (Sequence p) s) ≡ dropped s
unfolding step_in
step-broken d p b s h n = grind (arith, nat_tests)

sequence-finished : (d : Geometry) (ps : List ℕ) (f : ℕ) (s : Screen) → are_parameters ps ≡ true → within 64 126 f ≡ true → feed d (27 ∷ 91 ∷ (ps ++ (f ∷ []))) (into Ground s) ≡ sequence_does d ps f (into Ground s)
unfolding finish move
sequence-finished d ps f s a h =
    feed-parameters d ps f s a
    ∙ step-final d (params Bare ps) f s h
    ∙ ap (cond (eqb f 109) (into Ground s)) (act-reads d f (into (Sequence (params Bare ps)) s) ps)

pub reads-proof : Reads
reads-proof d ps s a g = record {
  finished = λ f h. rw (← ground-is s g) (sequence-finished d ps f s a h);
  broken = λ b h n. rw (← ground-is s g) (feed-parameters d ps b s a ∙ step-broken d (params Bare ps) b s h n);
}
