use Rattle.screen.proofs.Refreshing.{refreshes-proof}
use Rattle.screen.proofs.refreshes.Goals as goal

pub returns : goal.returns
returns c = refreshes-proof
