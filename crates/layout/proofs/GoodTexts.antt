-- A good text is measured character by character. Assumes nothing.
use Rattle.std.proofs.Common.{◌≡◌, ℕ, ◌+◌, ◌≤◌, Bool, true, false, not, ◌&&◌, eqb, ltb, List, [], ◌∷◌, ◌++◌, length, IfSome, Some, Option, sym, refl, ap, ◌∙◌, subst, ⊎_elim, add-zero, arith}
use Rattle.std.proofs.lemmas.Bool.{and_parts, not-true, cond-false, cond_both, both_ways, ne_eqb, le-leb, le-ltb, ltb-false}
use Rattle.text.proofs.Spelling.{good-scalars}
use Rattle.text.specs.Texts.{Spells}
use Rattle.text.specs.Characters.{is_control, Good, AllGood}
use Rattle.widths.specs.Clusters.{Cluster, is_mark, joined, clusters, total}
use Rattle.widths.specs.Fronts.{is_bare}
use Rattle.widths.proofs.Clustering.{cluster, mark-no-control, mark-width}
use Rattle.layout.specs.declared.layout.Position.{Position}
use Rattle.layout.specs.declared.measure.EscapeSequence.TheVariants.{Outside, Begun}
use Rattle.layout.specs.declared.measure.Walk.{Walk}
use Rattle.layout.specs.Measuring.{next_row, behind, step_over, step_cluster, walk_clusters, starting, at_end, measured, has_room, Advances}
use Rattle.layout.specs.Drawing.{step_place, walk_place}

-- no character's marks take a column
abbrev Tight : (ℕ → ℕ) → List Cluster → Type 0
Tight w [] = Unit {0}
Tight w (k ∷ ks) = (total w k.marks ≡ 0) × Tight w ks

joined-tight : (w : ℕ → ℕ) (c : ℕ) (ks : List Cluster) → Tight w ks → Tight w (joined w c ks)
joined-tight w c [] t = (refl, tt)
joined-tight w c (k ∷ ks) t =
    cond_both (is_mark w k.first && not (is_control c)) _ _ (λ (l : List Cluster). Tight w l)
    (λ e. let z = mark-width w k.first (and_parts _ _ e).0 in let y = t.0 in (omega arith, t.1))
    (λ _. (refl, t))

clusters-tight : (w : ℕ → ℕ) (cs : List ℕ) → Tight w (clusters w cs)
clusters-tight w [] = tt
clusters-tight w (c ∷ cs) = joined-tight w c (clusters w cs) (clusters-tight w cs)

-- what takes no column moves no place on a row
pub behind-none : (cols : ℕ) (p : Position) → p.col ≤ cols → behind cols 0 p ≡ p
behind-none cols p h = cond-false (ltb cols (p.col + 0)) _ _ (le-ltb _ _ (omega arith)) ∙ (λ i. record { col = add-zero p.col i; row = p.row })

pub behind-col : (cols n : ℕ) (p : Position) → n ≤ cols → (behind cols n p).col ≤ cols
behind-col cols n p h = cond_both (ltb cols (p.col + n)) _ _ (λ (q : Position). q.col ≤ cols) (λ _. h) (λ e. ltb-false cols (p.col + n) e)

pub step_place-col : (cols : ℕ) (w : ℕ → ℕ) (c : ℕ) (p : Position) → w c ≤ cols → (step_place cols w c p).col ≤ cols
step_place-col cols w c p h = cond_both (eqb c 10) _ _ (λ (q : Position). q.col ≤ cols) (λ _. omega arith) (λ _. behind-col cols (w c) p h)

-- LF, TAB and ESC are controls
plain-is : (c d : ℕ) → is_control c ≡ false → is_control d ≡ true → eqb c d ≡ false
plain-is c d plain control = ne_eqb c d (λ e. both_ways (is_control c) plain (ap is_control e ∙ control))

-- a character that is no control takes its columns
step-plain : (cols tab c : ℕ) (bare : Bool) (n : ℕ) (p : Position) → is_control c ≡ false → step_over cols tab c bare n (starting p) ≡ starting (behind cols n p)
step-plain cols tab c bare n p plain =
    cond-false (eqb c 10) _ _ (plain-is c 10 plain refl) ∙ cond-false (eqb c 9) _ _ (plain-is c 9 plain refl)
    ∙ (λ i. record { position = behind cols n p; escape = cond-false (eqb c 27) Begun Outside (plain-is c 27 plain refl) i })

module _ (w : ℕ → ℕ) (cols tab : ℕ) (fits : (c : ℕ) → w c ≤ cols) where
  -- a good character alone
  step-good : (c : ℕ) (p : Position) → Good c → step_cluster w cols tab (cluster c []) (starting p) ≡ starting (step_place cols w c p)
  step-good c p good =
      ⊎_elim
      (λ lf. rw lf refl)
      (λ plain. step-plain cols tab c true (w c + 0) p plain ∙ ap (λ n. starting (behind cols n p)) (add-zero (w c))
      ∙ ap starting (sym (cond-false (eqb c 10) (next_row p) (behind cols (w c) p) (plain-is c 10 plain refl))))
      good.1

  -- marks that a cluster takes in move no place
  step-marks : (c : ℕ) (k : Cluster) (p : Position) → is_control c ≡ false → is_mark w k.first ≡ true → total w k.marks ≡ 0
      → step_cluster w cols tab (cluster c (k.first ∷ k.marks)) (starting p) ≡ step_cluster w cols tab k (starting (step_place cols w c p))
  step-marks c k p plain mark none =
      let zero = mark-width w k.first mark in
      let q = behind cols (w c) p in
      let wide : w c + (w k.first + total w k.marks) ≡ w c = omega arith in
      let thin : w k.first + total w k.marks ≡ 0 = omega arith in
      step-plain cols tab c false _ p plain
      ∙ ap (λ n. starting (behind cols n p)) wide
      ∙ ap starting (sym (behind-none cols q (behind-col cols (w c) p (fits c))))
      ∙ sym (step-plain cols tab k.first (is_bare k.marks) _ (step_place cols w c p) (mark-no-control w k.first mark)
      ∙ ap (λ n. starting (behind cols n (step_place cols w c p))) thin
      ∙ ap (λ (r : Position). starting (behind cols 0 r)) (cond-false (eqb c 10) (next_row p) q (plain-is c 10 plain refl)))

  -- one character more in front
  walk-joined : (c : ℕ) (ks : List Cluster) (p : Position) → Good c → Tight w ks
      → walk_clusters w cols tab (joined w c ks) (starting p) ≡ walk_clusters w cols tab ks (starting (step_place cols w c p))
  walk-joined c [] p good tight = step-good c p good
  walk-joined c (k ∷ ks) p good tight =
      cond_both (is_mark w k.first && not (is_control c)) _ _
      (λ (l : List Cluster). walk_clusters w cols tab l (starting p) ≡ walk_clusters w cols tab (k ∷ ks) (starting (step_place cols w c p)))
      (λ e.
      let both = and_parts (is_mark w k.first) (not (is_control c)) e in
      ap (walk_clusters w cols tab ks) (step-marks c k p (not-true (is_control c) both.1) both.0 tight.0))
      (λ _. ap (walk_clusters w cols tab (k ∷ ks)) (step-good c p good))

  -- the clusters of a good text lead to where its characters lead
  pub walk-good : (cs : List ℕ) (p : Position) → AllGood cs → walk_clusters w cols tab (clusters w cs) (starting p) ≡ starting (walk_place cols w cs p)
  walk-good [] p good = refl
  walk-good (c ∷ cs) p good = walk-joined c (clusters w cs) p good.0 (clusters-tight w cs) ∙ walk-good cs (step_place cols w c p) good.1

  pub measured-good : (cs : List ℕ) (p : Position) → AllGood cs → measured w cols tab cs p ≡ at_end cols (walk_place cols w cs p)
  measured-good cs p good = ap (λ t. at_end cols t.position) (walk-good cs p good)

  pub walk_place-col : (cs : List ℕ) (p : Position) → p.col ≤ cols → (walk_place cols w cs p).col ≤ cols
  walk_place-col [] p h = h
  walk_place-col (c ∷ cs) p h = walk_place-col cs (step_place cols w c p) (step_place-col cols w c p (fits c))

-- one text behind another
pub walk_place-append : (w : ℕ → ℕ) (cols : ℕ) (cs ds : List ℕ) (p : Position) → walk_place cols w (cs ++ ds) p ≡ walk_place cols w ds (walk_place cols w cs p)
walk_place-append w cols [] ds p = refl
walk_place-append w cols (c ∷ cs) ds p = walk_place-append w cols cs ds (step_place cols w c p)

-- a walk over a good text goes from place to place
pub advances-good : (w : ℕ → ℕ) (cols tab : ℕ) → ((c : ℕ) → w c ≤ cols) → (bs cs : List ℕ) (p : Position) (r : Option Walk)
    → Spells bs cs → has_room (length bs) tab (starting p) ≡ true → Advances w bs cols tab (starting p) r → r ≡ Some (starting (walk_place cols w cs p))
advances-good w cols tab fits bs cs p r spells room walks =
    walks.reached room cs (good-scalars cs spells.0) spells.1 ∙ ap Some (walk-good w cols tab fits cs p spells.0)

-- a walk over a good text, from a place with room below
module _ (w : ℕ → ℕ) (cols : ℕ) (fits : (c : ℕ) → w c ≤ cols) where
  pub record Went-on (p : Position) (bs cs : List ℕ) (r : Option Walk) : Type 0 where
    pub is : r ≡ Some (starting (walk_place cols w cs p))
    pub row : (walk_place cols w cs p).row ≤ p.row + length bs

  pub went_on : (p : Position) (s : Walk) (bs cs : List ℕ) (r : Option Walk) → s ≡ starting p → Spells bs cs → p.row + length bs ≤ 65535 → Advances w bs cols 8 s r → Went-on p bs cs r
  went_on p s bs cs r e sp room a =
      let b : Advances w bs cols 8 (starting p) r = subst (λ (x : Walk). Advances w bs cols 8 x r) e a in
      let is = advances-good w cols 8 fits bs cs p r sp (le-leb (p.row + length bs) 65535 room) b in
      record { is = is; row = subst (λ (o : Option Walk). IfSome o (λ t. t.position.row ≤ p.row + length bs)) is b.rows }
