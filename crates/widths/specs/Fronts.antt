-- The cluster that stands at the front of some bytes. Assumes nothing.
use Rattle.std.specs.Prelude.{◌≡◌, ℕ, ◌+◌, ◌<◌, ◌≤◌, Bool, true, false, List, [], ◌∷◌, ◌++◌, length, drop, Some, None, Option, ◌==◌}
use Rattle.std.proofs.Math.Utf8.{encode, encodes, scalar, scalars}
use Rattle.text.specs.Characters.{is_control}
use Rattle.text.specs.Decoding.{NoCharacter}
use Rattle.text.specs.declared.decode.Decoded.{Decoded}
use Rattle.widths.specs.declared.clusters.ClusterAt.{ClusterAt}
use Rattle.widths.specs.Clusters.{is_mark, cluster_width}

-- each of them is a mark
abbrev pub AllMarks : (ℕ → ℕ) → List ℕ → Type 0
AllMarks w [] = Unit {0}
AllMarks w (c ∷ cs) = (is_mark w c ≡ true) × AllMarks w cs

-- no mark stands at the front
abbrev pub NoMark : (ℕ → ℕ) → List ℕ → Type 0
NoMark w bs = (c : ℕ) (rest : List ℕ) → scalar c ≡ true → bs ≡ encode c ++ rest → is_mark w c ≡ false

-- whether a cluster has no mark
abbrev pub is_bare : List ℕ → Bool
is_bare [] = true
is_bare (c ∷ cs) = false

-- the characters cs stand at the front, in so many bytes
pub record FrontText (cs bs : List ℕ) (len : ℕ) : Type 0 where
  pub valid : scalars cs ≡ true
  pub bytes : bs ≡ encodes cs ++ drop len bs
  pub taken : len ≡ length (encodes cs)

-- marks of so many bytes stand at the front
pub record FrontMarks (w : ℕ → ℕ) (bs : List ℕ) (len : ℕ) : Type 0 where
  pub marks : List ℕ
  pub all-marks : AllMarks w marks
  pub front : FrontText marks bs len

-- a cluster stands at the front: a control alone, any other character with all the marks behind it
pub record FrontCluster (w : ℕ → ℕ) (bs : List ℕ) (k : ClusterAt) : Type 0 where
  pub marks : List ℕ
  pub all-marks : AllMarks w marks
  pub front : FrontText (k.first ∷ marks) bs k.len
  pub alone : is_control k.first ≡ true → marks ≡ []
  pub next : is_control k.first ≡ false → NoMark w (drop k.len bs)
  pub bare : k.bare ≡ is_bare marks
  pub width : k.width ≡ cluster_width w (record { first = k.first; marks = marks })

-- a character with so many bytes of marks behind it
abbrev pub cluster_of : (ℕ → ℕ) → Decoded → ℕ → ClusterAt
cluster_of w d n = record { first = d.code; bare = (n == 0); len = d.len + n; width = w d.code }

-- what a look at the front answers
abbrev pub Clustered : (ℕ → ℕ) → List ℕ → Option ClusterAt → Type 0
Clustered w bs None = NoCharacter bs
Clustered w bs (Some k) = FrontCluster w bs k

-- a cluster found at an index takes one byte at least, and ends within so many bytes
abbrev pub Within : ℕ → ℕ → Option ClusterAt → Type 0
Within at n None = Unit {0}
Within at n (Some k) = (0 < k.len) × (at + k.len ≤ n)
