use Rattle.screen.proofs.Keeping.{keeps-proof}
use Rattle.screen.proofs.keeps.Goals as goal

pub returns : goal.returns
returns c = keeps-proof
