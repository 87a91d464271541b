use Rattle.screen.proofs.Counting.{places-proof}
use Rattle.screen.proofs.places.Goals as goal

pub returns : goal.returns
returns c = places-proof
