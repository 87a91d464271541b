use Rattle.screen.proofs.Erasing.{erases-proof}
use Rattle.screen.proofs.erases.Goals as goal

pub returns : goal.returns
returns c = erases-proof
