-- The order of places: rows count before columns. Assumes nothing.
use Rattle.std.specs.Prelude.{◌≡◌, ℕ, true, cond, ◌==◌, nat_lt}
use Rattle.std.specs.declared.cmp.Ordering.TheVariants.{Less, Equal, Greater}
use Rattle.std.specs.declared.cmp.Ordering.{Ordering}
use Rattle.std.specs.Ordering.{is_le, ordering_reverse}
use Rattle.layout.specs.declared.layout.Position.{Position}

-- how a number stands to another
abbrev pub by_number : ℕ → ℕ → Ordering
by_number a b = cond (nat_lt a b) Less (cond (a == b) Equal Greater)

-- how a place stands to another: by row, and in one row by column
abbrev pub comparison : Position → Position → Ordering
comparison p q = cond (p.row == q.row) (by_number p.col q.col) (by_number p.row q.row)

-- a comparison is a total order: it is equal exactly on equal places, the other way round it is reversed, and it is transitive
pub record TotalOrder (order : Position → Position → Ordering) : Type 0 where
  pub itself : (p : Position) → order p p ≡ Equal
  pub same : (p q : Position) → order p q ≡ Equal → p ≡ q
  pub swapped : (p q : Position) → order q p ≡ ordering_reverse (order p q)
  pub through : (p q r : Position) → is_le (order p q) ≡ true → is_le (order q r) ≡ true → is_le (order p r) ≡ true

-- places are totally ordered
abbrev pub TotallyOrdered : Type 0
TotallyOrdered = TotalOrder comparison
