use Rattle.screen.proofs.Moving.{moves-proof}
use Rattle.screen.proofs.moves.Goals as goal

pub returns : goal.returns
returns c = moves-proof
