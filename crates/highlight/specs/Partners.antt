-- What is answered for a bracket is its partner. Assumes nothing.
use Rattle.std.specs.Prelude.{◌≡◌, ℕ, zero, suc, ◌+◌, ◌-◌, ◌<◌, ◌≤◌, Bool, true, false, cond, ◌&&◌, ◌⊎◌, List, reverse, length, take, drop, Some, None, Option, ◌==◌, ◌≢◌, nat_le, nat_lt, slice_index, slice_index_or, refl}
use Rattle.std.proofs.Common.{sym, ap, subst, ◌∙◌, inl, inr, ⊎_elim, arith, add-one, length-drop}
use Rattle.std.proofs.lemmas.Bool.{eqb-true, eqb-false, and_from, and_left, and_right, cond-true, cond-false, lt-ltb, le-ltb, le-leb, lt-leb, cases_Bool, cases_lt}
use Rattle.std.proofs.lemmas.Bool.Decides.{nat_tests}
use Rattle.std.proofs.lemmas.List.{get_or-drop}
use Rattle.std.proofs.lemmas.List.Sums.{sum_by_more}
use Rattle.std.specs.Option.{option_map}
use Rattle.highlight.specs.declared.brackets.Bracket.{Bracket}
use Rattle.highlight.specs.Lighting.{to_light}
use Rattle.highlight.specs.Balances.{length_back, get_or-back}
use Rattle.highlight.specs.Brackets.{is_open, is_close, partner, count, balances, least, partner_index, partner_ahead, partner_before, matching, Partnered, Matched}

-- what is known of the least number below n that passes
abbrev LeastOf : (ℕ → Bool) → ℕ → Option ℕ → Type 0
LeastOf p n None = (k : ℕ) → k < n → p k ≡ false
LeastOf p n (Some i) = (i < n) × (p i ≡ true) × ((k : ℕ) → k < i → p k ≡ false)

-- what holds at zero and one further on holds everywhere below
shifted : (p : ℕ → Bool) (n : ℕ) → p zero ≡ false → ((k : ℕ) → k < n → p (suc k) ≡ false) → (k : ℕ) → k < suc n → p k ≡ false
shifted p n e f zero h = e
shifted p n e f (suc k) h = f k (omega arith)

least_step : (p : ℕ → Bool) (n : ℕ) (t : Bool) → p zero ≡ t → (o : Option ℕ) → LeastOf (λ k. p (suc k)) n o → LeastOf p (suc n) (cond t (Some zero) (option_map suc o))
least_step p n true e o l = (omega arith, e, λ k h. absurd (omega arith))
least_step p n false e None l = shifted p n e l
least_step p n false e (Some i) l = (omega (arith, l.0), l.1, shifted p i e l.2)

least-law : (p : ℕ → Bool) (n : ℕ) → LeastOf p n (least p n)
least-law p zero = λ k h. absurd (omega arith)
least-law p (suc n) = least_step p n (p zero) refl (least (λ k. p (suc k)) n) (least-law (λ k. p (suc k)) n)

one_at_most : (t : Bool) → cond t 1 0 ≤ 1
one_at_most true = omega arith
one_at_most false = omega arith

count-more : (b : ℕ) (bs : List ℕ) (i : ℕ) → i < length bs → count b (take (suc i) bs) ≡ count b (take i bs) + cond (slice_index bs i == b) 1 0
count-more b bs i h = rw add-one at (sum_by_more (λ x. cond (x == b) 1 0) bs i 0 h)

-- while nothing has balanced, some are open
still_open : (b : ℕ) (bs : List ℕ) (i : ℕ) → i ≤ length bs → ((k : ℕ) → k < i → balances b (take (suc k) bs) ≡ false) → count (partner b) (take i bs) < suc (count b (take i bs))
still_open b bs zero h f = omega arith
still_open b bs (suc i) h f =
    let before = still_open b bs i (omega arith) (λ k l. f k (omega arith)) in
    let p = count-more (partner b) bs i (omega arith) in
    let q = count-more b bs i (omega arith) in
    let one = one_at_most (slice_index bs i == partner b) in
    let apart = eqb-false (suc (count b (take (suc i) bs))) (count (partner b) (take (suc i) bs)) (f i (omega arith)) in
    omega arith

-- the byte that balances is the partner
balances-at : (b : ℕ) (bs : List ℕ) (i : ℕ) → i < length bs → count (partner b) (take i bs) < suc (count b (take i bs)) → suc (count b (take (suc i) bs)) ≡ count (partner b) (take (suc i) bs) → slice_index bs i ≡ partner b
balances-at b bs i h before even =
    eqb-true (slice_index bs i) (partner b) (go (slice_index bs i == partner b) (let p = count-more (partner b) bs i h in let q = count-more b bs i h in omega arith))
  where
    go : (t : Bool) → 1 ≤ cond t 1 0 → t ≡ true
    go true l = refl
    go false l = absurd (omega arith)

partnered-by : (b : ℕ) (bs : List ℕ) (o : Option ℕ) → LeastOf (λ i. balances b (take (suc i) bs)) (length bs) o → Partnered b bs o
partnered-by b bs None l = λ k h e. eqb-false (suc (count b (take (suc k) bs))) (count (partner b) (take (suc k) bs)) (l k h) e
partnered-by b bs (Some i) l =
    let even = eqb-true (suc (count b (take (suc i) bs))) (count (partner b) (take (suc i) bs)) l.1 in
    record {
      within = l.0;
      byte = balances-at b bs i l.0 (still_open b bs i (omega (arith, l.0)) l.2) even;
      balanced = even;
      first = λ k h e. eqb-false (suc (count b (take (suc k) bs))) (count (partner b) (take (suc k) bs)) (l.2 k h) e;
    }

pub partnered : (b : ℕ) (bs : List ℕ) → Partnered b bs (partner_index b bs)
partnered b bs = partnered-by b bs (partner_index b bs) (least-law (λ i. balances b (take (suc i) bs)) (length bs))

-- no byte is an opening and a closing bracket
opening-not-closing : (b : ℕ) → is_open b ≡ true → is_close b ≡ false
opening-not-closing b e = grind (arith, nat_tests)

closing-not-opening : (b : ℕ) → is_close b ≡ true → is_open b ≡ false
closing-not-opening b e = grind (arith, nat_tests)

-- the two directions of a search, and where there is none
module _ (line : List ℕ) (pos b : ℕ) where
  pub matching-ahead : is_open b ≡ true → pos < length line → matching line pos b ≡ partner_ahead line pos b
  matching-ahead o h = cond-true _ _ _ (and_from (is_open b) _ o (lt-ltb pos (length line) h))

  pub matching-before : is_close b ≡ true → pos ≤ length line → matching line pos b ≡ partner_before line pos b
  matching-before e h =
      cond-false _ _ _ (and_left (is_open b) _ (closing-not-opening b e)) ∙ cond-true _ _ _ (and_from (is_close b) _ e (le-leb pos (length line) h))

  matching-none : (is_open b && nat_lt pos (length line)) ≡ false → (is_close b && nat_le pos (length line)) ≡ false → matching line pos b ≡ None
  matching-none e f = cond-false _ _ _ e ∙ cond-false _ _ _ f

  pub matched-is : Matched line pos b (matching line pos b)
  matched-is =
      record {
        ahead = λ o h. (partner_index b (drop (pos + 1) line), partnered b (drop (pos + 1) line), matching-ahead o h);
        before = λ e h. (partner_index b (reverse (take pos line)), partnered b (reverse (take pos line)), matching-before e h);
        opening_past = λ o h. matching-none (and_right (is_open b) _ (le-ltb pos (length line) h)) (and_left (is_close b) _ (opening-not-closing b o));
        closing-past = λ e h. matching-none (and_left (is_open b) _ (closing-not-opening b e)) (and_right (is_close b) _ (lt-leb pos (length line) h));
        other = λ n m. matching-none (and_left (is_open b) _ n) (and_left (is_close b) _ m);
      }

  pub matched-by : {r : Option Bracket} → r ≡ matching line pos b → Matched line pos b r
  matched-by {r} e = subst (Matched line pos b) (sym e) matched-is

-- a bracket stands at its index of a line
pub record Stands (line : List ℕ) (m : Bracket) : Type 0 where
  pub within : m.at < length line
  pub byte : slice_index_or line m.at 0 ≡ m.byte
  pub ascii : m.byte < 128

-- a partner is an ASCII byte
opening-ascii : (b : ℕ) → is_open b ≡ true → partner b < 128
opening-ascii b e = grind (arith, nat_tests)

closing-ascii : (b : ℕ) → is_close b ≡ true → partner b < 128
closing-ascii b e = grind (arith, nat_tests)

ahead-stands : (line : List ℕ) (pos b : ℕ) (m : Bracket) → is_open b ≡ true → (i : Option ℕ) → Partnered b (drop (pos + 1) line) i → Some m ≡ option_map (λ k. record { byte = partner b; at = pos + 1 + k }) i → Stands line m
ahead-stands line pos b m o None p e = absurd (let z : ◌≡◌ {A = ℕ} 0 1 = cc in omega arith)
ahead-stands line pos b m o (Some k) p e =
    let byte : m.byte ≡ partner b = cc in
    let at : m.at ≡ pos + 1 + k = cc in
    let long = length-drop (pos + 1) line in
    let within = p.within in
    record { within = omega arith; byte = ap (λ n. slice_index line n) at ∙ sym (get_or-drop (pos + 1) line k 0) ∙ p.byte ∙ sym byte; ascii = omega (arith, opening-ascii b o) }

before_stands : (line : List ℕ) (pos b : ℕ) (m : Bracket) → is_close b ≡ true → pos ≤ length line → (i : Option ℕ) → Partnered b (reverse (take pos line)) i → Some m ≡ option_map (λ k. record { byte = partner b; at = pos - 1 - k }) i → Stands line m
before_stands line pos b m c h None p e = absurd (let z : ◌≡◌ {A = ℕ} 0 1 = cc in omega arith)
before_stands line pos b m c h (Some k) p e =
    let byte : m.byte ≡ partner b = cc in
    let at : m.at ≡ pos - 1 - k = cc in
    let long = length_back line pos h in
    let within = p.within in
    let here : pos - 1 - k ≡ (pos - k) - 1 = omega arith in
    let there : pos - (pos - k) ≡ k = omega arith in
    record {
      within = omega arith;
      byte = ap (λ n. slice_index line n) (at ∙ here) ∙ sym (get_or-back line pos h (pos - k) (omega arith) (omega arith)) ∙ ap (λ n. slice_index (reverse (take pos line)) n) there ∙ p.byte ∙ sym byte;
      ascii = omega (arith, closing-ascii b c);
    }

-- none is not some
not_some : {m : Bracket} (r : Option Bracket) → r ≡ Some m → r ≢ None
not_some r p q = let z : ◌≡◌ {A = ℕ} 0 1 = cc in omega arith

pub matching-stands : (line : List ℕ) (pos b : ℕ) (m : Bracket) → matching line pos b ≡ Some m → Stands line m
matching-stands line pos b m e = by (cases_Bool (is_open b)) (cases_Bool (is_close b))
  where
    law : Matched line pos b (matching line pos b)
    law = matched-is line pos b

    by : (is_open b ≡ true) ⊎ (is_open b ≡ false) → (is_close b ≡ true) ⊎ (is_close b ≡ false) → Stands line m
    by (inl o) _ =
        ⊎_elim (λ h. let a = law.ahead o h in ahead-stands line pos b m o a.0 a.1 (sym e ∙ a.2)) (λ h. absurd (not_some _ e (law.opening_past o h))) (cases_lt pos (length line))
    by (inr n) (inl c) =
        ⊎_elim (λ h. absurd (not_some _ e (law.closing-past c h))) (λ h. let a = law.before c h in before_stands line pos b m c h a.0 a.1 (sym e ∙ a.2)) (cases_lt (length line) pos)
    by (inr n) (inr k) = absurd (not_some _ e (law.other n k))

-- so does the bracket to light
pub to_light-stands : (memory : Option Bracket) (line : List ℕ) (m : Bracket) → to_light memory line ≡ Some m → Stands line m
to_light-stands None line m e = absurd (not_some None e refl)
to_light-stands (Some b) line m e = by (nat_le (length line) 1) e
  where
    by : (t : Bool) → cond t None (matching line b.at b.byte) ≡ Some m → Stands line m
    by true p = absurd (not_some None p refl)
    by false p = matching-stands line b.at b.byte m p
