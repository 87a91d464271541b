-- Where a text ends, measured cluster by cluster on rows of so many columns. Assumes nothing.
use Rattle.std.specs.Prelude.{◌≡◌, ℕ, ◌+◌, ◌-◌, ◌%◌, ◌<◌, ◌≤◌, min, Bool, true, false, cond, ◌&&◌, List, [], ◌∷◌, length, IfSome, Some, None, Ok, Err, IsUtf8, Option, Result, ◌==◌, nat_le, nat_lt}
use Rattle.std.proofs.Math.Utf8.{encodes, scalars}
use Rattle.text.specs.declared.refusal.Refusal.{Refusal}
use Rattle.text.specs.declared.refusal.Refusal.TheVariants.{Size, Text, Long}
use Rattle.widths.specs.Clusters.{Cluster, clusters, cluster_width}
use Rattle.widths.specs.Fronts.{is_bare}
use Rattle.layout.specs.declared.layout.Position.{Position}
use Rattle.layout.specs.declared.measure.EscapeSequence.{EscapeSequence}
use Rattle.layout.specs.declared.measure.EscapeSequence.TheVariants.{Outside, Begun, Inside}
use Rattle.layout.specs.declared.measure.Walk.{Walk}

-- column 0 of the next row
abbrev pub next_row : Position → Position
next_row p = record { col = 0; row = p.row + 1 }

-- behind so many columns, which begin the next row where they would pass the last column
abbrev pub behind : ℕ → ℕ → Position → Position
behind cols n p =
    cond (nat_lt cols (p.col + n)) (record { col = n; row = p.row + 1 }) (record { col = p.col + n; row = p.row })

-- at the next tab stop, at most in the last column; from there on a tab stays put
abbrev pub tabbed : ℕ → ℕ → Position → Position
tabbed cols tab p =
    cond (nat_le (cols - 1) p.col) p (record { col = min (p.col + (tab - p.col % tab)) (cols - 1); row = p.row })

-- how far a sequence has come behind a cluster of which the first character is c: ESC begins one, a bare [ right behind it
-- goes inside, and inside the bytes 0x30 to 0x3F go on; whatever else comes is its last
abbrev pub sequence_after : EscapeSequence → ℕ → Bool → EscapeSequence
sequence_after Outside c bare = cond (c == 27) Begun Outside
sequence_after Begun c bare = cond (c == 91 && bare) Inside Outside
sequence_after Inside c bare = cond (nat_le 48 c && nat_le c 63) Inside Outside

-- the columns that a cluster of a width takes: none in a sequence (ESC is a control and has none)
abbrev pub columns_in : EscapeSequence → ℕ → ℕ
columns_in Outside n = n
columns_in Begun n = 0
columns_in Inside n = 0

-- a step, by a cluster's first character, whether it is bare, and its width: LF and TAB act in a sequence too, and leave it open
abbrev pub step_over : ℕ → ℕ → ℕ → Bool → ℕ → Walk → Walk
step_over cols tab c bare n s =
    cond (c == 10) (record { position = next_row s.position; escape = s.escape })
    (cond (c == 9) (record { position = tabbed cols tab s.position; escape = s.escape })
    (record { position = behind cols (columns_in s.escape n) s.position; escape = sequence_after s.escape c bare }))

-- one cluster
abbrev pub step_cluster : (ℕ → ℕ) → ℕ → ℕ → Cluster → Walk → Walk
step_cluster w cols tab k s = step_over cols tab k.first (is_bare k.marks) (cluster_width w k) s

-- one cluster after the other
abbrev pub walk_clusters : (ℕ → ℕ) → ℕ → ℕ → List Cluster → Walk → Walk
walk_clusters w cols tab [] s = s
walk_clusters w cols tab (k ∷ ks) s = walk_clusters w cols tab ks (step_cluster w cols tab k s)

-- each byte may begin a row, and no row passes 65,535; tab stops are one column apart at least
abbrev pub has_room : ℕ → ℕ → Walk → Bool
has_room len tab s = nat_le 1 tab && nat_le (s.position.row + len) 65535

-- a walk goes on over a text: it fails exactly where there is no room or the text is no UTF-8
pub record Advances (w : ℕ → ℕ) (bs : List ℕ) (cols tab : ℕ) (s : Walk) (r : Option Walk) : Type 0 where
  pub room : has_room (length bs) tab s ≡ false → r ≡ None
  pub text : (IsUtf8 bs → ⊥) → r ≡ None
  pub reached : has_room (length bs) tab s ≡ true
      → (cs : List ℕ) → scalars cs ≡ true → encodes cs ≡ bs → r ≡ Some (walk_clusters w cols tab (clusters w cs) s)
  pub rows : IfSome r (λ t. t.position.row ≤ s.position.row + length bs)

-- a full row counts as column 0 of the next
abbrev pub at_end : ℕ → Position → Position
at_end cols p = cond (p.col == cols) (next_row p) p

-- a place down to row 65,535
abbrev pub in_rows : Position → Option Position
in_rows p = cond (nat_le p.row 65535) (Some p) None

-- a walk that begins at a place, in no sequence
abbrev pub starting : Position → Walk
starting p = record { position = p; escape = Outside }

-- where characters end that are drawn from a place
abbrev pub measured : (ℕ → ℕ) → ℕ → ℕ → List ℕ → Position → Position
measured w cols tab cs origin = at_end cols (walk_clusters w cols tab (clusters w cs) (starting origin)).position

-- 2 to 500 columns, a tab stop of 1 to 32, an origin up to row 60,000 and column 500
abbrev pub in_range : ℕ → ℕ → Position → Bool
in_range cols tab p =
    (nat_le 2 cols && nat_le cols 500) && ((nat_le 1 tab && nat_le tab 32) && (nat_le p.row 60000 && nat_le p.col 500))

-- the answer for a text: 1 out of range, else 3 for no UTF-8, else 4 past 4,096 bytes, else where the text ends
pub record Measures (w : ℕ → ℕ) (bs : List ℕ) (cols tab : ℕ) (origin : Position) (r : Result Position Refusal) : Type 0 where
  pub size : in_range cols tab origin ≡ false → r ≡ Err Size
  pub text : in_range cols tab origin ≡ true → (IsUtf8 bs → ⊥) → r ≡ Err Text
  pub long : in_range cols tab origin ≡ true → IsUtf8 bs → 4096 < length bs → r ≡ Err Long
  pub place : in_range cols tab origin ≡ true → length bs ≤ 4096
      → (cs : List ℕ) → scalars cs ≡ true → encodes cs ≡ bs → r ≡ Ok (measured w cols tab cs origin)
