use Rattle.screen.proofs.Feeding.{feeds-proof}
use Rattle.screen.proofs.feeds.Goals as goal

pub returns : goal.returns
returns c = feeds-proof
