-- The examples about parameter bytes, computed.
use Rattle.std.proofs.Common.{refl}
use Rattle.worked.specs.Rows.{WorkedParameters}

pub worked-parameters : WorkedParameters
worked-parameters = record { all = refl; others = refl }
