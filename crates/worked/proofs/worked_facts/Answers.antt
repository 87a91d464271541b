use Rattle.worked.proofs.Computing.{worked-proof}
use Rattle.worked.proofs.worked_facts.Goals as goal

pub returns : goal.returns
returns c = worked-proof
