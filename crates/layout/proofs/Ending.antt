-- Where a measured text ends. Assumes nothing.
use Rattle.std.proofs.Common.{◌≡◌, ℕ, ◌≤◌, true, List, length, Some, Ok, ap, ◌∙◌, arith}
use Rattle.std.proofs.lemmas.Bool.{both_ways}
use Rattle.std.proofs.lemmas.Bool.Decides.{nat_tests}
use Rattle.widths.specs.Clusters.{clusters}
use Rattle.layout.specs.declared.layout.Position.{Position}
use Rattle.layout.specs.declared.measure.Walk.{Walk}
use Rattle.layout.specs.Measuring.{starting, walk_clusters, at_end, in_range, has_room, Advances, Measures}

-- a text that may be measured leaves room
pub range-room : (cols tab len : ℕ) (origin : Position) → in_range cols tab origin ≡ true → len ≤ 4096 → has_room len tab (starting origin) ≡ true
range-room cols tab len origin h small = grind (arith, nat_tests)

-- a walk to the end of a text answers its place
pub measures-end : (w : ℕ → ℕ) (text : List ℕ) (cols tab : ℕ) (origin : Position) (start walk : Walk) (p : Position)
    → in_range cols tab origin ≡ true → length text ≤ 4096 → start ≡ starting origin → Advances w text cols tab start (Some walk) → p ≡ at_end cols walk.position
    → Measures w text cols tab origin (Ok p)
measures-end w text cols tab origin start walk p within small begins walks end = record {
  size = λ h. absurd (both_ways (in_range cols tab origin) h within);
  text = λ _ h. let none = walks.text h in let z : ◌≡◌ {A = ℕ} 0 1 = cc in absurd (omega arith);
  long = λ _ _ more. absurd (omega arith);
  place = λ _ _ cs v e.
      let s = walks.reached (rw begins (range-room cols tab (length text) origin within small)) cs v e in
      let same : walk ≡ walk_clusters w cols tab (clusters w cs) (starting origin) = rw begins at (some_same s) in
      ap Ok (end ∙ ap (λ t. at_end cols t.position) same);
}
  where
    some_same : {t : Walk} → Some walk ≡ Some t → walk ≡ t
    some_same e = cc
