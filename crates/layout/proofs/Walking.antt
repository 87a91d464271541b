-- A walk over a text, cluster by cluster. Assumes nothing.
use Rattle.std.proofs.Common.{◌≡◌, ℕ, ◌+◌, ◌-◌, ◌<◌, ◌≤◌, ◌≢◌, Bool, true, eqb, ltb, leb, List, [], ◌∷◌, ◌++◌, length, Some, None, Ok, Err, Result, IsUtf8, sym, refl, subst, ap, ◌∙◌, append_assoc, append-nil, arith, length-drop}
use lib.Utf8.{encodes, scalars}
use Rattle.std.proofs.lemmas.Bool.{and_parts, both_ways, cond_both, leb-true}
use Rattle.std.proofs.lemmas.Str.{encodes-append, length-le-encodes}
use Rattle.text.specs.Decoding.{NoCharacter}
use Rattle.widths.specs.declared.clusters.ClusterAt.{ClusterAt}
use Rattle.widths.specs.Clusters.{clusters, cluster_width}
use Rattle.widths.specs.declared.clusters.NotUtf8.{NotUtf8}
use Rattle.widths.specs.Walks.{Taken, TakesCluster}
use Rattle.std.specs.Result.{result_ok}
use Rattle.widths.proofs.Clustering.{cluster, follows, no-character-ends}
use Rattle.widths.proofs.Standing.{scalars-append}
use Rattle.layout.specs.declared.layout.Position.{Position}
use Rattle.layout.specs.declared.measure.Walk.{Walk}
use Rattle.layout.specs.Measuring.{behind, tabbed, step_over, columns_in, walk_clusters, has_room, Advances}

pub behind-row : (cols n : ℕ) (p : Position) → (behind cols n p).row ≤ p.row + 1
behind-row cols n p = cond_both (ltb cols (p.col + n)) _ _ (λ (q : Position). q.row ≤ p.row + 1) (λ _. omega arith) (λ _. omega arith)

pub tabbed-row : (cols tab : ℕ) (p : Position) → (tabbed cols tab p).row ≡ p.row
tabbed-row cols tab p = cond_both (leb (cols - 1) p.col) _ _ (λ (q : Position). q.row ≡ p.row) (λ _. refl) (λ _. refl)

-- a step goes down one row at most
pub step_row : (cols tab c : ℕ) (bare : Bool) (n : ℕ) (s : Walk) → (step_over cols tab c bare n s).position.row ≤ s.position.row + 1
step_row cols tab c bare n s =
    cond_both (eqb c 10) _ _ (λ (t : Walk). t.position.row ≤ s.position.row + 1) (λ _. omega arith)
    (λ _. cond_both (eqb c 9) _ _ (λ (t : Walk). t.position.row ≤ s.position.row + 1)
    (λ _. let same = tabbed-row cols tab s.position in omega arith)
    (λ _. behind-row cols (columns_in s.escape n) s.position))

-- characters of no byte are none
pub encodes-none : (cs : List ℕ) → encodes cs ≡ [] → cs ≡ []
encodes-none [] e = refl
encodes-none (c ∷ cs) e = let l = length-le-encodes (c ∷ cs) in let n = ap length e in absurd (omega arith)

-- a cluster was taken
pub taken-ok : (w : ℕ → ℕ) (bs left : List ℕ) (r : Result ClusterAt NotUtf8) (k : ClusterAt) → TakesCluster w bs (Some r) left → result_ok r ≡ Some k → Taken w bs k left
taken-ok w bs left (Ok x) k taken e = let same : x ≡ k = cc in subst (λ y. Taken w bs y left) same taken
taken-ok w bs left (Err x) k taken e = let z : ◌≡◌ {A = ℕ} 0 1 = cc in absurd (omega arith)

-- no character stood there
pub taken-err : (w : ℕ → ℕ) (bs left : List ℕ) (r : Result ClusterAt NotUtf8) → TakesCluster w bs (Some r) left → result_ok r ≡ None → (bs ≢ []) × NoCharacter bs
taken-err w bs left (Ok x) taken e = let z : ◌≡◌ {A = ℕ} 0 1 = cc in absurd (omega arith)
taken-err w bs left (Err x) taken e = (taken.0, taken.1)

module _ (w : ℕ → ℕ) (cols tab : ℕ) (text : List ℕ) (s : Walk) where
  -- the characters left lead from a walk to where all lead from the start
  pub record Left (cs left : List ℕ) (t : Walk) : Type 0 where
    pub rest : List ℕ
    pub valid : scalars rest ≡ true
    pub bytes : encodes rest ≡ left
    pub same : walk_clusters w cols tab (clusters w cs) s ≡ walk_clusters w cols tab (clusters w rest) t

  -- a walk has come to what is left of the text, and went down one row for each byte at most
  pub record Walked (left : List ℕ) (t : Walk) : Type 0 where
    pub seen : List ℕ
    pub valid : scalars seen ≡ true
    pub bytes : text ≡ encodes seen ++ left
    pub leads : (cs : List ℕ) → scalars cs ≡ true → encodes cs ≡ text → Left cs left t
    pub rows : t.position.row + length left ≤ s.position.row + length text

  pub walked_none : (left : List ℕ) → left ≡ text → Walked left s
  walked_none left all =
      let len = ap length all in
      record { seen = []; valid = refl; bytes = sym all; leads = λ cs v e. record { rest = cs; valid = v; bytes = e ∙ sym all; same = refl }; rows = omega arith }

  pub walked_more : (bs left : List ℕ) (t : Walk) (k : ClusterAt) → Walked bs t → Taken w bs k left → Walked left (step_over cols tab k.first k.bare k.width t)
  walked_more bs left t k walked taken =
      let f = taken.front in
      let down = step_row cols tab k.first k.bare k.width t in
      let rows = walked.rows in
      let some = taken.some in
      let within = taken.within in
      let fewer : length left ≡ length bs - k.len = ap length taken.others ∙ length-drop k.len bs in
      record {
        seen = walked.seen ++ (k.first ∷ f.marks);
        valid = scalars-append walked.seen (k.first ∷ f.marks) walked.valid f.front.valid;
        bytes = walked.bytes ∙ ap (λ x. encodes walked.seen ++ x) (f.front.bytes ∙ ap (λ x. encodes (k.first ∷ f.marks) ++ x) (sym taken.others))
            ∙ sym (append_assoc (encodes walked.seen) (encodes (k.first ∷ f.marks)) left)
            ∙ ap (λ x. x ++ left) (sym (encodes-append walked.seen (k.first ∷ f.marks)));
        leads = λ cs v e.
            let l = walked.leads cs v e in
            let next = follows w l.rest bs k l.valid l.bytes f in
            record {
              rest = next.rest;
              valid = next.valid;
              bytes = next.left ∙ sym taken.others;
              same = l.same ∙ ap (λ ks. walk_clusters w cols tab ks t) next.split
                  ∙ ap (λ b. walk_clusters w cols tab (clusters w next.rest) (step_over cols tab k.first b (cluster_width w (cluster k.first f.marks)) t)) (sym f.bare)
                  ∙ ap (λ n. walk_clusters w cols tab (clusters w next.rest) (step_over cols tab k.first k.bare n t)) (sym f.width);
            };
        rows = omega arith;
      }

  -- before a further cluster there is room
  pub step-room : (bs left : List ℕ) (t : Walk) (k : ClusterAt) → Walked bs t → Taken w bs k left → has_room (length text) tab s ≡ true → (t.position.row < 65535) × (0 < tab)
  step-room bs left t k walked taken enough =
      let room = and_parts (leb 1 tab) (leb (s.position.row + length text) 65535) enough in
      let stop = leb-true 1 tab room.0 in
      let low = leb-true (s.position.row + length text) 65535 room.1 in
      let rows = walked.rows in
      let some = taken.some in
      let within = taken.within in
      (omega arith, omega arith)

  -- a walk that has come to the end
  walked_all : (left : List ℕ) (t : Walk) → Walked left t → left ≡ [] → (cs : List ℕ) → scalars cs ≡ true → encodes cs ≡ text → walk_clusters w cols tab (clusters w cs) s ≡ t
  walked_all left t walked end cs v e =
      let l = walked.leads cs v e in
      l.same ∙ ap (λ xs. walk_clusters w cols tab (clusters w xs) t) (encodes-none l.rest (l.bytes ∙ end))

  walked-utf8 : (left : List ℕ) (t : Walk) → Walked left t → left ≡ [] → IsUtf8 text
  walked-utf8 left t walked end =
      (walked.seen, (walked.valid, sym (walked.bytes ∙ ap (λ x. encodes walked.seen ++ x) end ∙ append-nil (encodes walked.seen))))

  -- a walk that has come to no character before the end
  walked-stuck : (left : List ℕ) (t : Walk) → Walked left t → left ≢ [] → NoCharacter left → IsUtf8 text → ⊥
  walked-stuck left t walked before none utf8 =
      let l = walked.leads utf8.0 utf8.1.0 utf8.1.1 in
      before (sym l.bytes ∙ ap encodes (no-character-ends l.rest left l.valid l.bytes none))

  -- what a walk to the end answers
  pub advances-all : (left : List ℕ) (t : Walk) → Walked left t → left ≡ [] → has_room (length text) tab s ≡ true → Advances w text cols tab s (Some t)
  advances-all left t walked end enough = let rows = walked.rows in record {
    room = λ h. absurd (both_ways (has_room (length text) tab s) h enough);
    text = λ h. absurd (h (walked-utf8 left t walked end));
    reached = λ _ cs v e. ap Some (sym (walked_all left t walked end cs v e));
    rows = omega arith;
  }

  -- what a walk that got stuck answers
  pub advances-stuck : (left : List ℕ) (t : Walk) → Walked left t → (left ≢ []) × NoCharacter left → Advances w text cols tab s None
  advances-stuck left t walked none = record {
    room = λ _. refl;
    text = λ _. refl;
    reached = λ _ cs v e. absurd (walked-stuck left t walked none.0 none.1 (cs, (v, e)));
    rows = tt;
  }
