use Rattle.screen.proofs.Drawing.{draws-proof}
use Rattle.screen.proofs.draws.Goals as goal

pub returns : goal.returns
returns c = draws-proof
