-- The search for a bracket's partner, index by index. Assumes nothing.
use Rattle.std.specs.Prelude.{◌≡◌, ℕ, zero, suc, ◌+◌, ◌-◌, ◌<◌, ◌≤◌, Bool, true, false, cond, List, ◌==◌, reverse, length, take, Some, None, ◌≢◌, nat_eq, slice_index, slice_index_or, refl}
use Rattle.std.proofs.Common.{sym, ap, ◌∙◌, arith, add-one, length-take, below_more}
use Rattle.std.proofs.lemmas.Bool.{cond-true, cond-false, eq-eqb, ne_eqb, eqb-true, eqb-false}
use Rattle.std.proofs.lemmas.Bool.Decides.{nat_tests}
use Rattle.std.proofs.lemmas.List.{get_or-reverse, get_or-take, length-reverse, length-take-le}
use Rattle.std.proofs.lemmas.List.Sums.{count_by_more_yes, count_by_more_no, count_by-le-length}
use Rattle.std.specs.Option.{option_map}
use Rattle.highlight.specs.Brackets.{is_open, is_close, partner, count, balances, least, partner_index}

-- the least number that passes, from the fact that none below it does
pub least-is : (p : ℕ → Bool) (n i : ℕ) → i < n → p i ≡ true → ((k : ℕ) → k < i → p k ≡ false) → least p n ≡ Some i
least-is p zero i h e f = absurd (omega arith)
least-is p (suc n) zero h e f = cond-true (p zero) (Some zero) (option_map suc (least (λ k. p (suc k)) n)) e
least-is p (suc n) (suc i) h e f =
    cond-false (p zero) (Some zero) (option_map suc (least (λ k. p (suc k)) n)) (f zero (omega arith))
    ∙ ap (option_map suc) (least-is (λ k. p (suc k)) n i (omega arith) e (λ k l. f (suc k) (omega arith)))

-- no number passes
pub least-none : (p : ℕ → Bool) (n : ℕ) → ((k : ℕ) → k < n → p k ≡ false) → least p n ≡ None
least-none p zero f = refl
least-none p (suc n) f =
    cond-false (p zero) (Some zero) (option_map suc (least (λ k. p (suc k)) n)) (f zero (omega arith))
    ∙ ap (option_map suc) (least-none (λ k. p (suc k)) n (λ k l. f (suc k) (omega arith)))

-- a bracket is not its own partner
pub opening-apart : (b : ℕ) → is_open b ≡ true → partner b ≢ b
opening-apart b e h = grind (arith, nat_tests)

pub closing-apart : (b : ℕ) → is_close b ≡ true → partner b ≢ b
closing-apart b e h = grind (arith, nat_tests)

-- how many brackets of a kind have no partner yet behind one more byte
abbrev pub left_behind : ℕ → ℕ → ℕ → ℕ
left_behind b n x = cond (x == partner b) (n - 1) (cond (x == b) (n + 1) n)

-- so many brackets are open after the first bytes, and nothing has balanced
pub record Searching (b : ℕ) (bs : List ℕ) (i unmatched : ℕ) : Type 0 where
  pub positive : 0 < unmatched
  pub counted : unmatched + count (partner b) (take i bs) ≡ suc (count b (take i bs))
  pub none_yet : (k : ℕ) → k < i → balances b (take (suc k) bs) ≡ false

pub searching-none : (b : ℕ) (bs : List ℕ) → Searching b bs 0 1
searching-none b bs = record { positive = omega arith; counted = refl; none_yet = λ k h. absurd (omega arith) }

pub unmatched-bound : {b : ℕ} {bs : List ℕ} {i u : ℕ} → Searching b bs i u → u ≤ i + 1
unmatched-bound {b} {bs} {i} {u} s =
    let few = count_by-le-length (λ x. nat_eq x b) (take i bs) in let short = length-take i bs in omega arith

-- every byte was passed
pub searching-all : {b : ℕ} {bs : List ℕ} {i u : ℕ} → Searching b bs i u → length bs ≤ i → partner_index b bs ≡ None
searching-all {b} {bs} {i} {u} s past =
    least-none (λ k. balances b (take (suc k) bs)) (length bs) (λ k h. s.none_yet k (omega arith))

module _ {b : ℕ} {bs : List ℕ} {i u : ℕ} (s : Searching b bs i u) where
  -- one more byte, with so many open after it
  searching-more : (v : ℕ) → 0 < v → v + count (partner b) (take (i + 1) bs) ≡ suc (count b (take (i + 1) bs)) → Searching b bs (i + 1) v
  searching-more v positive after =
      record {
        positive = positive;
        counted = after;
        none_yet =
            below_more (λ k. balances b (take (suc k) bs) ≡ false) i s.none_yet (let e : balances b (take (i + 1) bs) ≡ false = ne_eqb _ _ (λ e. omega arith) in rw add-one at e);
      }

  module _ (within : i < length bs) {m : ℕ} (matches : m ≡ partner b) where
    -- a byte of neither kind
    pub other-more : {j v : ℕ} → (slice_index bs i ≢ m) → (slice_index bs i ≢ b) → j ≡ i + 1 → v ≡ u → Searching b bs j v
    other-more {j} {v} differs differs' next same =
        let p = count_by_more_no (λ x. nat_eq x (partner b)) bs i 0 within (ne_eqb (slice_index bs i) (partner b) (λ e. differs (e ∙ sym matches))) in
        let q = count_by_more_no (λ x. nat_eq x b) bs i 0 within (ne_eqb (slice_index bs i) b differs') in
        rw (next, same) (searching-more u s.positive (omega arith))

    -- a bracket of the same kind
    pub own-more : {j v : ℕ} → (slice_index bs i ≢ m) → slice_index bs i ≡ b → j ≡ i + 1 → v ≡ u + 1 → Searching b bs j v
    own-more {j} {v} differs is next one =
        let p = count_by_more_no (λ x. nat_eq x (partner b)) bs i 0 within (ne_eqb (slice_index bs i) (partner b) (λ e. differs (e ∙ sym matches))) in
        let q = count_by_more_yes (λ x. nat_eq x b) bs i 0 within (eq-eqb (slice_index bs i) b is) in
        rw (next, one) (searching-more (u + 1) (omega arith) (omega arith))

    module _ (apart : partner b ≡ b → ⊥) (is : slice_index_or bs i 0 ≡ m) where
      after-partner : (u - 1) + count (partner b) (take (i + 1) bs) ≡ suc (count b (take (i + 1) bs))
      after-partner =
          let p = count_by_more_yes (λ x. nat_eq x (partner b)) bs i 0 within (eq-eqb (slice_index bs i) (partner b) (is ∙ matches)) in
          let q = count_by_more_no (λ x. nat_eq x b) bs i 0 within (ne_eqb (slice_index bs i) b (λ e. apart (sym (is ∙ matches) ∙ e))) in
          let open-before = s.counted in
          omega arith

      -- a partner that leaves some open
      pub partner-more : {j v : ℕ} → (u - 1 ≢ 0) → j ≡ i + 1 → v ≡ u - 1 → Searching b bs j v
      partner-more {j} {v} left next less = rw (next, less) (searching-more (u - 1) (omega arith) after-partner)

      -- the partner that leaves none open
      pub partner-found : u - 1 ≡ 0 → partner_index b bs ≡ Some i
      partner-found e =
          let after = after-partner in
          let t : balances b (take (i + 1) bs) ≡ true = eq-eqb _ _ (omega arith) in
          least-is (λ k. balances b (take (suc k) bs)) (length bs) i within (rw add-one at t) s.none_yet

  -- the same, by how many are left behind the byte
  module _ (within : i < length bs) (apart : partner b ≢ b) {x v : ℕ} (is : x ≡ slice_index bs i) (left : v ≡ left_behind b u x) where
    -- some are left
    pub left-more : {j : ℕ} → (v ≢ 0) → j ≡ i + 1 → Searching b bs j v
    left-more {j} some next = by (x == partner b) (x == b) refl refl left
      where
        by : (t r : Bool) → (x == partner b) ≡ t → (x == b) ≡ r → v ≡ cond t (u - 1) (cond r (u + 1) u) → Searching b bs j v
        by true r p q e = partner-more within refl apart (sym is ∙ eqb-true x (partner b) p) (λ z. some (e ∙ z)) next e
        by false true p q e = own-more within refl (λ z. eqb-false x (partner b) p (is ∙ z)) (sym is ∙ eqb-true x b q) next e
        by false false p q e = other-more within refl (λ z. eqb-false x (partner b) p (is ∙ z)) (λ z. eqb-false x b q (is ∙ z)) next e

    -- none is left, so the byte is the partner
    pub left-none : v ≡ 0 → (partner_index b bs ≡ Some i) × (x ≡ partner b)
    left-none none = by (x == partner b) (x == b) refl refl left
      where
        by : (t r : Bool) → (x == partner b) ≡ t → (x == b) ≡ r → v ≡ cond t (u - 1) (cond r (u + 1) u) → (partner_index b bs ≡ Some i) × (x ≡ partner b)
        by true r p q e = (partner-found within refl apart (sym is ∙ eqb-true x (partner b) p) (sym e ∙ none), eqb-true x (partner b) p)
        by false true p q e = absurd (omega arith)
        by false false p q e = absurd (let some = s.positive in omega arith)

-- the bytes before a position, the nearest first
module _ (line : List ℕ) (pos : ℕ) (within : pos ≤ length line) where
  pub length_back : length (reverse (take pos line)) ≡ pos
  length_back = length-reverse (take pos line) ∙ length-take-le pos line within

  -- every byte before the position was passed
  pub back-all : {b u : ℕ} (at : ℕ) → Searching b (reverse (take pos line)) (pos - at) u → at ≤ 0 → partner_index b (reverse (take pos line)) ≡ None
  back-all at s none = searching-all s (rw length_back (omega arith))

  module _ (at : ℕ) (positive : 0 < at) (before : at ≤ pos) where
    back-within : pos - at < length (reverse (take pos line))
    back-within = rw length_back (omega arith)

    pub get_or-back : slice_index_or (reverse (take pos line)) (pos - at) 0 ≡ slice_index line (at - 1)
    get_or-back =
        let long = length-take-le pos line within in
        get_or-reverse (take pos line) (pos - at) 0 (omega arith) ∙ ap (λ k. slice_index (take pos line) k) (omega arith) ∙ get_or-take pos line (at - 1) 0 (omega arith)

    module _ {b u : ℕ} (s : Searching b (reverse (take pos line)) (pos - at) u) {m : ℕ} (matches : m ≡ partner b) where
      pub back-other : (slice_index line (at - 1) ≢ m) → (slice_index line (at - 1) ≢ b) → Searching b (reverse (take pos line)) (pos - (at - 1)) u
      back-other differs differs' =
          other-more s back-within matches (λ e. differs (sym get_or-back ∙ e)) (λ e. differs' (sym get_or-back ∙ e)) (omega arith) refl

      pub back-own : (slice_index line (at - 1) ≢ m) → slice_index line (at - 1) ≡ b → Searching b (reverse (take pos line)) (pos - (at - 1)) (u + 1)
      back-own differs is = own-more s back-within matches (λ e. differs (sym get_or-back ∙ e)) (get_or-back ∙ is) (omega arith) refl

      pub back-partner : (partner b ≢ b) → slice_index line (at - 1) ≡ m → (u - 1 ≢ 0) → Searching b (reverse (take pos line)) (pos - (at - 1)) (u - 1)
      back-partner apart is left = partner-more s back-within matches apart (get_or-back ∙ is) left (omega arith) refl

      pub back_found : (partner b ≢ b) → slice_index line (at - 1) ≡ m → u - 1 ≡ 0 → partner_index b (reverse (take pos line)) ≡ Some (pos - at)
      back_found apart is none = partner-found s back-within matches apart (get_or-back ∙ is) none
