use Rattle.screen.proofs.Decode.{utf-proof}
use Rattle.screen.proofs.utf.Goals as goal

pub returns : goal.returns
returns c = utf-proof
