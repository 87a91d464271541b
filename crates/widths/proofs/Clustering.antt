-- The clusters of a text, one after the other. Assumes nothing.
use Rattle.std.proofs.Common.{◌≡◌, ℕ, Bool, true, false, cond, not, ◌&&◌, eqb, List, [], ◌∷◌, ◌++◌, drop, sym, refl, ap, ◌∙◌, append_assoc, arith}
use lib.Utf8.{encode, encodes, scalar, scalars}
use Rattle.std.proofs.lemmas.Bool.{cond-true, cond-false, and_from, and_parts, and_left, and_right, not-true, not_from_false, eqb-true, both_ways}
use Rattle.std.proofs.lemmas.Str.{cons_from_encodes}
use Rattle.text.specs.Characters.{is_control}
use Rattle.text.specs.Decoding.{NoCharacter}
use Rattle.widths.specs.declared.clusters.ClusterAt.{ClusterAt}
use Rattle.widths.specs.Clusters.{Cluster, is_mark, joined, clusters, total}
use Rattle.widths.specs.Fronts.{AllMarks, NoMark, FrontCluster}

abbrev pub cluster : ℕ → List ℕ → Cluster
cluster c ms = record { first = c; marks = ms }

-- the first cluster begins with the first character
pub joined-begins : (w : ℕ → ℕ) (c : ℕ) (ks : List Cluster) → (ms : List ℕ) × (rest : List Cluster) × (joined w c ks ≡ cluster c ms ∷ rest)
joined-begins w c [] = ([], [], refl)
joined-begins w c (k ∷ ks) = go (is_mark w k.first && not (is_control c))
  where
    go : (b : Bool) → (ms : List ℕ) × (rest : List Cluster) × (cond b (cluster c (k.first ∷ k.marks) ∷ ks) (cluster c [] ∷ k ∷ ks) ≡ cluster c ms ∷ rest)
    go true = (k.first ∷ k.marks, ks, refl)
    go false = ([], k ∷ ks, refl)

-- a mark is no control
pub mark-no-control : (w : ℕ → ℕ) (c : ℕ) → is_mark w c ≡ true → is_control c ≡ false
mark-no-control w c h = not-true (is_control c) (and_parts (eqb (w c) 0) (not (is_control c)) h).1

-- a mark takes no column
pub mark-width : (w : ℕ → ℕ) (c : ℕ) → is_mark w c ≡ true → w c ≡ 0
mark-width w c h = eqb-true (w c) 0 (and_parts (eqb (w c) 0) (not (is_control c)) h).0

-- nor do several
pub marks-width : (w : ℕ → ℕ) (cs : List ℕ) → AllMarks w cs → total w cs ≡ 0
marks-width w [] all = refl
marks-width w (c ∷ cs) all =
    let a = mark-width w c all.0 in
    let b = marks-width w cs all.1 in
    omega arith

-- no mark is first among some characters
abbrev pub Unmarked : (ℕ → ℕ) → List ℕ → Type 0
Unmarked w cs = (d : ℕ) (ds : List ℕ) → cs ≡ d ∷ ds → is_mark w d ≡ false

-- a character that takes in nothing is a cluster
pub clusters-bare : (w : ℕ → ℕ) (c : ℕ) (cs : List ℕ) → (is_control c ≡ false → Unmarked w cs) → clusters w (c ∷ cs) ≡ cluster c [] ∷ clusters w cs
clusters-bare w c [] h = refl
clusters-bare w c (d ∷ ds) h =
    let j = joined-begins w d (clusters w ds) in
    rw j.2 (cond-false (is_mark w d && not (is_control c)) _ _ (go (is_control c) h))
  where
    go : (b : Bool) → (b ≡ false → Unmarked w (d ∷ ds)) → (is_mark w d && not b) ≡ false
    go true f = and_right (is_mark w d) false refl
    go false f = and_left (is_mark w d) true (f refl d ds refl)

-- a character with all the marks behind it is a cluster
pub clusters-front : (w : ℕ → ℕ) (c : ℕ) (ms cs : List ℕ)
    → AllMarks w ms
    → (is_control c ≡ true → ms ≡ [])
    → (is_control c ≡ false → Unmarked w cs)
    → clusters w (c ∷ (ms ++ cs)) ≡ cluster c ms ∷ clusters w cs
clusters-front w c [] cs all alone next = clusters-bare w c cs next
clusters-front w c (m ∷ ms) cs all alone next =
    let plain = mark-no-control w m all.0 in
    let open-c = no-marks (is_control c) alone in
    let rest = clusters-front w m ms cs all.1 (λ e. absurd (both_ways _ plain e)) (λ _. next open-c) in
    rw rest (cond-true (is_mark w m && not (is_control c)) _ _ (and_from _ _ all.0 (not_from_false _ open-c)))
  where
    no-marks : (b : Bool) → (b ≡ true → (m ∷ ms) ≡ []) → b ≡ false
    no-marks true f = let e = f refl in let z : true ≡ false = cc in z
    no-marks false f = refl

-- characters whose bytes begin with those of others begin with the others
pub split-encodes : (ps cs rest : List ℕ) → encodes cs ≡ encodes ps ++ rest → (es : List ℕ) × (cs ≡ ps ++ es) × (encodes es ≡ rest)
split-encodes [] cs rest e = (cs, refl, e)
split-encodes (p ∷ ps) cs rest e =
    let one = cons_from_encodes cs (encodes ps ++ rest) p (e ∙ append_assoc (encode p) (encodes ps) rest) in
    let more = split-encodes ps one.0 rest one.2 in
    (more.0, one.1 ∙ ap (λ xs. p ∷ xs) more.1, more.2)

-- what follows some scalar values are scalar values
pub scalars-rest : (ps cs : List ℕ) → scalars (ps ++ cs) ≡ true → scalars cs ≡ true
scalars-rest [] cs h = h
scalars-rest (p ∷ ps) cs h = scalars-rest ps cs (and_parts (scalar p) (scalars (ps ++ cs)) h).1

-- no mark at the front of the bytes is no mark at the front of the characters
pub unmarked : (w : ℕ → ℕ) (cs bs : List ℕ) → scalars cs ≡ true → encodes cs ≡ bs → NoMark w bs → Unmarked w cs
unmarked w cs bs valid e none d ds is =
    let s : (scalar d && scalars ds) ≡ true = rw is at valid in
    none d (encodes ds) (and_parts (scalar d) (scalars ds) s).0 (sym e ∙ ap encodes is)

-- the cluster at the front is the first of the characters, and the clusters of the rest follow it
pub record Follows (w : ℕ → ℕ) (cs bs : List ℕ) (k : ClusterAt) (ms : List ℕ) : Type 0 where
  pub rest : List ℕ
  pub characters : cs ≡ k.first ∷ (ms ++ rest)
  pub valid : scalars rest ≡ true
  pub left : encodes rest ≡ drop k.len bs
  pub split : clusters w cs ≡ cluster k.first ms ∷ clusters w rest

pub follows : (w : ℕ → ℕ) (cs bs : List ℕ) (k : ClusterAt) → scalars cs ≡ true → encodes cs ≡ bs → (f : FrontCluster w bs k) → Follows w cs bs k f.marks
follows w cs bs k valid e f =
    let s = split-encodes (k.first ∷ f.marks) cs (drop k.len bs) (e ∙ f.front.bytes) in
    let ok : scalars ((k.first ∷ f.marks) ++ s.0) ≡ true = rw s.1 at valid in
    let ok-rest = scalars-rest (k.first ∷ f.marks) s.0 ok in
    record {
      rest = s.0;
      characters = s.1;
      valid = ok-rest;
      left = s.2;
      split = ap (clusters w) s.1 ∙ clusters-front w k.first f.marks s.0 f.all-marks f.alone (λ h. unmarked w s.0 _ ok-rest s.2 (f.next h));
    }

-- where no character stands there is none left
pub no-character-ends : (cs bs : List ℕ) → scalars cs ≡ true → encodes cs ≡ bs → NoCharacter bs → cs ≡ []
no-character-ends [] bs valid e none = refl
no-character-ends (c ∷ cs) bs valid e none = absurd (none c (encodes cs) (and_parts (scalar c) (scalars cs) valid).0 (sym e))
