use Rattle.screen.proofs.Sequences.{style-proof}
use Rattle.screen.proofs.style.Goals as goal

pub returns : goal.returns
returns c = style-proof
