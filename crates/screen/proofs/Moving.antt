-- The four moves.
use Rattle.std.proofs.Common.{◌≡◌, ℕ, sym, refl, ap, ◌∙◌, arith}
use Rattle.screen.proofs.Erasing.{feed-number}
use Rattle.screen.proofs.Sequences.{ground-is}
use Rattle.screen.specs.Bytes.{act, at, feed, finish, into, move, step, step_in}
use Rattle.screen.specs.Laws.{Moves}
use Rattle.screen.specs.Output.{move_by}
use Rattle.screen.specs.declared.cells.Parameters.TheVariants.{Number}
use Rattle.screen.specs.declared.cells.Parser.TheVariants.{Sequence}

pub moves-proof : Moves
unfolding step_in finish act move
moves-proof d n s w h k = (
  (λ l. moved 65 ∙ at_path (omega arith) refl),
  (λ l. moved 66 ∙ at_path (omega arith) refl),
  (λ l. moved 67 ∙ at_path refl (omega arith)),
  (λ l. moved 68 ∙ at_path refl (omega arith)),
)
  where
    moved : (b : ℕ) → feed d (move_by b n) s ≡ step d b (into (Sequence (Number n)) s)
    moved b = ap (feed d (move_by b n)) (sym (ground-is s w.idle)) ∙ feed-number d b n s k

    at_path : {i j a b : ℕ} → i ≡ j → a ≡ b → at i a s ≡ at j b s
    at_path e f = λ x. at (e x) (f x) s
