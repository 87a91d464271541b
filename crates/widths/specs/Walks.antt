-- A walk over the clusters of some bytes. Assumes nothing.
use Rattle.std.specs.Prelude.{◌≡◌, ◌≢◌, ℕ, ◌<◌, ◌≤◌, List, [], length, drop, Some, None, Ok, Err, Option, Result}
use Rattle.text.specs.Decoding.{Front, NoCharacter}
use Rattle.text.specs.declared.decode.Decoded.{Decoded}
use Rattle.widths.specs.declared.clusters.ClusterAt.{ClusterAt}
use Rattle.widths.specs.declared.clusters.Clusters.{Clusters}
use Rattle.widths.specs.declared.clusters.NotUtf8.{NotUtf8}
use Rattle.widths.specs.Fronts.{FrontCluster}

-- the bytes of which no cluster has come yet
abbrev pub bytes_left : {W : Type 0} → Clusters W → List ℕ
bytes_left clusters = clusters.rest.now

-- a character is taken from the front of some bytes, and others are left
pub record TakenChar (bs : List ℕ) (d : Decoded) (left : List ℕ) : Type 0 where
  pub front : Front bs d
  pub some : 0 < d.len
  pub within : d.len ≤ length bs
  pub others : left ≡ drop d.len bs

-- what is taken: a character, or nothing where none stands
abbrev pub TakesCharacter : List ℕ → Option Decoded → List ℕ → Type 0
TakesCharacter bs None left = NoCharacter bs × (left ≡ bs)
TakesCharacter bs (Some d) left = TakenChar bs d left

-- a cluster is taken from the front of some bytes, and others are left
pub record Taken (w : ℕ → ℕ) (bs : List ℕ) (k : ClusterAt) (left : List ℕ) : Type 0 where
  pub front : FrontCluster w bs k
  pub some : 0 < k.len
  pub within : k.len ≤ length bs
  pub others : left ≡ drop k.len bs

-- what is taken: a cluster, while there are bytes; where no character stands that is said, and nothing is left
abbrev pub TakesCluster : (ℕ → ℕ) → List ℕ → Option (Result ClusterAt NotUtf8) → List ℕ → Type 0
TakesCluster w bs None left = (bs ≡ []) × (left ≡ [])
TakesCluster w bs (Some (Ok k)) left = Taken w bs k left
TakesCluster w bs (Some (Err e)) left = (bs ≢ []) × NoCharacter bs × (left ≡ [])
