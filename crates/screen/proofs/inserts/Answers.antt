use Rattle.screen.proofs.Inserting.{inserts-proof}
use Rattle.screen.proofs.inserts.Goals as goal

pub returns : goal.returns
returns c = inserts-proof
