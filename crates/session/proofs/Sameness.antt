-- When two sizes or two places are one, by the test of their fields. Assumes nothing.
use Rattle.std.proofs.Common.{◌≡◌, true, false, not, ◌&&◌, ◌==◌, sym, ap, ◌∙◌}
use Rattle.std.proofs.lemmas.Bool.{and_parts, eqb-true, eq-eqb, not-false, false≢true}
use Rattle.layout.specs.declared.layout.Position.{Position}
use Rattle.terminal.proofs.Sizes.{size-path}
use Rattle.terminal.specs.declared.size.Size.{Size}

-- sizes whose columns and rows are tested to be equal are one
pub sizes-one : (a b : Size) → ((b.cols == a.cols) && (b.rows == a.rows)) ≡ true → a ≡ b
sizes-one a b e =
    let parts = and_parts (b.cols == a.cols) (b.rows == a.rows) e in
    size-path a b (sym (eqb-true b.cols a.cols parts.0)) (sym (eqb-true b.rows a.rows parts.1))

-- sizes of which one of the tests fails are two
pub sizes-two : (a b : Size) → ((b.cols == a.cols) && (b.rows == a.rows)) ≡ false → a ≡ b → ⊥
sizes-two a b e same = false≢true (sym e ∙ (λ i. (eq-eqb b.cols a.cols (sym (ap (λ (z : Size). z.cols) same)) i) && (eq-eqb b.rows a.rows (sym (ap (λ (z : Size). z.rows) same)) i)))

-- sizes of which no test says that they differ are one
pub sizes-alike : (a b : Size) → not ((b.cols == a.cols) && (b.rows == a.rows)) ≡ false → a ≡ b
sizes-alike a b e = sizes-one a b (not-false ((b.cols == a.cols) && (b.rows == a.rows)) e)

-- places whose columns and rows are tested to be equal are one
pub places-one : (p q : Position) → true ≡ ((p.row == q.row) && (p.col == q.col)) → p ≡ q
places-one p q e =
    let parts = and_parts (p.row == q.row) (p.col == q.col) (sym e) in
    λ i. record { row = eqb-true p.row q.row parts.0 i; col = eqb-true p.col q.col parts.1 i }

-- places of which one of the tests fails are two
pub places-two : (p q : Position) → false ≡ ((p.row == q.row) && (p.col == q.col)) → p.col ≡ q.col → p.row ≡ q.row → ⊥
places-two p q e col row = false≢true (e ∙ (λ i. (eq-eqb p.row q.row row i) && (eq-eqb p.col q.col col i)))
