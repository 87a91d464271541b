use Rattle.screen.proofs.Reading.{reads-proof}
use Rattle.screen.proofs.reads.Goals as goal

pub returns : goal.returns
returns c = reads-proof
