-- What the order of the ranges gives. Assumes nothing.
use Rattle.std.specs.Prelude.{◌≡◌, ℕ, zero, suc, ◌+◌, ◌<◌, ◌≤◌, Bool, true, false, cond, ◌&&◌, List, [], ◌∷◌, length, drop, Some, None, Option, find, nat_le, slice_index_or, refl}
use Rattle.std.proofs.Common.{ap, ◌∙◌, not-suc-le-zero, le_of_suc-le-suc, arith}
use Rattle.std.proofs.lemmas.Bool.{leb-true, le-leb, lt-leb, and_parts, and_from, and_left, and_right, cond_both, cond-true, cond-false}
use Rattle.std.proofs.lemmas.Bool.Decides.{nat_tests}
use Rattle.std.proofs.lemmas.List.{drop_more}
use Rattle.widths.specs.declared.ranges.WidthRange.{WidthRange}
use Rattle.text.specs.Characters.{is_control}
use Rattle.std.specs.List.{list_all}
use Rattle.widths.specs.Widths.{ranges, listed, ascending, eastern}

abbrev between : ℕ → ℕ → ℕ → Bool
between low high b = nat_le low b && nat_le b high

-- the table's rule, computed once over the whole table
pub in_order : ascending 0 ranges ≡ true
in_order = refl

-- below the first range stands none
pub before : (rs : List WidthRange) (n c : ℕ) → ascending n rs ≡ true → c < n → listed rs c ≡ 1
before [] n c up lt = refl
before (r ∷ rs) n c up lt =
    let a = and_parts (nat_le n r.first) _ up in
    let b = and_parts (nat_le r.first r.last) _ a.1 in
    let n≤ = leb-true n r.first a.0 in
    let ≤l = leb-true r.first r.last b.0 in
    let out : between r.first r.last c ≡ false = grind (arith, nat_tests) in
    cond-false (between r.first r.last c) r.width (listed rs c) out ∙ before rs (r.last + 1) c b.1 (omega arith)

-- a character before the range at i is in none from there on
pub before_at : (rs : List WidthRange) (n i c : ℕ) (d : WidthRange) → ascending n rs ≡ true → i < length rs → c < (slice_index_or rs i d).first → listed (drop i rs) c ≡ 1
before_at [] n i c d up within lt = absurd (not-suc-le-zero within)
before_at (r ∷ rs) n zero c d up within lt =
    let a = and_parts (nat_le n r.first) _ up in
    before (r ∷ rs) r.first c (and_from _ _ (le-leb r.first r.first (omega arith)) a.1) lt
before_at (r ∷ rs) n (suc i) c d up within lt =
    let a = and_parts (nat_le n r.first) _ up in
    let b = and_parts (nat_le r.first r.last) _ a.1 in
    before_at rs (r.last + 1) i c d b.1 (le_of_suc-le-suc within) lt

module _ (rs : List WidthRange) (i c : ℕ) (d : WidthRange) (within : i < length rs) where
  next : listed (drop i rs) c ≡ cond (between (slice_index_or rs i d).first (slice_index_or rs i d).last c) (slice_index_or rs i d).width (listed (drop (i + 1) rs) c)
  next = ap (λ l. listed l c) (drop_more rs i d within)

  -- the range at i holds the character
  pub held_at : (slice_index_or rs i d).first ≤ c → c ≤ (slice_index_or rs i d).last → listed (drop i rs) c ≡ (slice_index_or rs i d).width
  held_at low high = next ∙ cond-true _ _ _ (and_from _ _ (le-leb _ _ low) (le-leb _ _ high))

  -- the range at i does not hold it
  pub passed-at : (slice_index_or rs i d).last < c → listed (drop i rs) c ≡ listed (drop (i + 1) rs) c
  passed-at high = next ∙ cond-false _ _ _ (and_right _ _ (lt-leb _ _ high))

-- the width of a character by a range that may hold it
abbrev pub width_by : ℕ → Option WidthRange → ℕ
width_by c None = 1
width_by c (Some r) = cond (nat_le r.first c) r.width 1

-- the first range that does not end before a character decides
pub listed-find : (rs : List WidthRange) (n c : ℕ) → ascending n rs ≡ true → listed rs c ≡ width_by c (find (λ r. nat_le c r.last) rs)
listed-find [] n c up = refl
listed-find (r ∷ rs) n c up =
    let a = and_parts (nat_le n r.first) _ up in
    let b = and_parts (nat_le r.first r.last) _ a.1 in
    cond_both (nat_le c r.last) (Some r) (find (λ r. nat_le c r.last) rs) (λ o. listed (r ∷ rs) c ≡ width_by c o)
    (λ high. cond_both (nat_le r.first c) r.width 1 (λ n. listed (r ∷ rs) c ≡ n)
    (λ low. cond-true _ _ _ (and_from _ _ low high))
    (λ low. cond-false _ _ _ (and_left _ _ low) ∙ before rs (r.last + 1) c b.1 (let h = leb-true c r.last high in omega arith)))
    (λ high. cond-false _ _ _ (and_right _ _ high) ∙ listed-find rs (r.last + 1) c b.1)

pub control-zero : (c : ℕ) → is_control c ≡ true → listed ranges c ≡ 0
control-zero c h = grind (arith, nat_tests)

-- ranges of at most two columns give at most two
narrow : (rs : List WidthRange) → list_all (λ (r : WidthRange). nat_le r.width 2) rs ≡ true → (c : ℕ) → listed rs c ≤ 2
narrow [] h c = omega arith
narrow (r ∷ rs) h c =
    let a = and_parts (nat_le r.width 2) _ h in
    cond_both (between r.first r.last c) r.width (listed rs c) (λ n. n ≤ 2) (λ _. leb-true r.width 2 a.0) (λ _. narrow rs a.1 c)

-- the Eastern table gives at most two columns
pub eastern-narrow : (c : ℕ) → eastern c ≤ 2
eastern-narrow c = narrow ranges refl c
