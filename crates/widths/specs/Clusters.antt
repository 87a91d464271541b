-- Clusters: a character with the zero-width characters behind it. Assumes nothing.
use Rattle.std.specs.Prelude.{ℕ, ◌+◌, Bool, cond, not, ◌&&◌, List, [], ◌∷◌, ◌==◌}
use Rattle.text.specs.Characters.{is_control}

-- a zero-width character that is no control
abbrev pub is_mark : (ℕ → ℕ) → ℕ → Bool
is_mark w c = w c == 0 && not (is_control c)

pub record Cluster : Type 0 where
  pub first : ℕ
  pub marks : List ℕ

-- the character c in front of some clusters: it takes in a first one that begins with a mark, unless it is a control
abbrev pub joined : (ℕ → ℕ) → ℕ → List Cluster → List Cluster
joined w c [] = record { first = c; marks = [] } ∷ []
joined w c (k ∷ ks) =
    cond (is_mark w k.first && not (is_control c))
    (record { first = c; marks = k.first ∷ k.marks } ∷ ks)
    (record { first = c; marks = [] } ∷ k ∷ ks)

-- the clusters of a text's characters
abbrev pub clusters : (ℕ → ℕ) → List ℕ → List Cluster
clusters w [] = []
clusters w (c ∷ cs) = joined w c (clusters w cs)

abbrev pub total : (ℕ → ℕ) → List ℕ → ℕ
total w [] = 0
total w (c ∷ cs) = w c + total w cs

-- a cluster's width is the sum of its characters'
abbrev pub cluster_width : (ℕ → ℕ) → Cluster → ℕ
cluster_width w k = w k.first + total w k.marks
