-- The paper of a grid of which some cells were written. Assumes nothing.
use Rattle.std.proofs.Common.{◌≡◌, ℕ, ◌+◌, ◌-◌, ◌*◌, ◌≤◌, List, length, replicate, vec_items, vec_len, sym, ap, ◌∙◌, le_refl, arith}
use Rattle.std.proofs.lemmas.List.{with_items_is, length-replicate}
use Rattle.std.proofs.lemmas.Nat.{mul-le}
use Rattle.std.specs.Vec.{with_items}
use borrow.Rule.Slice.PartMut.{mid_of, put_mid, mid_len, same_len_mid}
use Rattle.screen.specs.Screen.{Row, on_row, rows_from}
use Rattle.screen.specs.declared.cells.Cell.{Cell}
use Rattle.screen.specs.declared.cells.Cell.TheVariants.{Blank}
use Rattle.grid.specs.Meaning.{shown, row_of, paper_of}
use Rattle.grid.specs.declared.grid.Grid.{Grid}
use Rattle.grid.proofs.Papers.{paper-row, paper-rows}

-- the cells from a to e, which are those of row r, written over: one row of the paper changed
pub row-written : {W : Type 0} (s : Grid W) (r : ℕ) (f : Row → Row) (ys : List Cell) {a e : ℕ} {xs : List Cell} → xs ≡ vec_items s.cells → a ≡ r * s.size.cols → e ≡ r * s.size.cols + s.size.cols → e ≤ vec_len s.cells → length ys ≡ length (mid_of a (e - a) xs) → row_of ys ≡ f (row_of (mid_of a (e - a) xs)) → paper_of s.size.cols (vec_items (with_items s.cells (put_mid a (e - a) xs ys))) ≡ on_row r f (shown s).pen.paper
row-written s r f ys {a = a} {e = e} {xs = xs} items ea ee within same row =
    let w = s.size.cols in
    let size : vec_len s.cells ≡ length xs = s.cells.ok.0 ∙ ap length (sym items) in
    let whole = mid_len a e xs (omega arith) in
    ap (paper_of w) (with_items_is s.cells (put_mid a (e - a) xs ys) (same_len_mid a (e - a) xs ys same ∙ sym size))
    ∙ paper-row w r a (e - a) xs ys ea (omega arith) (omega arith) (same ∙ whole) f row
    ∙ ap (λ l. on_row r f (paper_of w l)) items

-- the cells from a to e, which are those of the rows from b up to c, blanked: those rows of the paper blanked
pub rows-written : {W : Type 0} (s : Grid W) (b c : ℕ) (ys : List Cell) {a e : ℕ} {xs : List Cell} → xs ≡ vec_items s.cells → a ≡ b * s.size.cols → e ≡ c * s.size.cols → 1 ≤ b → b ≤ c → e ≤ vec_len s.cells → ys ≡ replicate (length (mid_of a (e - a) xs)) Blank → paper_of s.size.cols (vec_items (with_items s.cells (put_mid a (e - a) xs ys))) ≡ rows_from b (c - 1) (shown s).pen.paper
rows-written s b c ys {a = a} {e = e} {xs = xs} items ea ee some le within blank =
    let w = s.size.cols in
    let size : vec_len s.cells ≡ length xs = s.cells.ok.0 ∙ ap length (sym items) in
    let forward = mul-le b w c w le (le_refl w) in
    let whole = mid_len a e xs (omega arith) in
    let same = ap length blank ∙ length-replicate _ Blank in
    ap (paper_of w) (with_items_is s.cells (put_mid a (e - a) xs ys) (same_len_mid a (e - a) xs ys same ∙ sym size))
    ∙ paper-rows w b c a (e - a) xs ys ea (omega arith) (omega arith) (omega arith) (blank ∙ ap (λ n. replicate n Blank) whole)
    ∙ ap (λ l. rows_from b (c - 1) (paper_of w l)) items
