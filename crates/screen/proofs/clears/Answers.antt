use Rattle.screen.proofs.Clearing.{clears-proof}
use Rattle.screen.proofs.clears.Goals as goal

pub returns : goal.returns
returns c = clears-proof
