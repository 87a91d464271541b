-- `visible_prompt` meets its contract. Assumes nothing.
use Rattle.std.proofs.Common.{arith}
use Rattle.text.proofs.Walks.{prompt-shown}
use Rattle.text.proofs.styled.visible_prompt.Goals as goal

pub returns : goal.returns
returns g c = rw c.or.ensures (prompt-shown _ _ _ _ c.visible_text.result (omega arith) (omega arith) c.visible_text.ensures)
