-- The examples about brackets, computed.
use Rattle.std.proofs.Common.{refl}
use Rattle.worked.specs.Brackets.{WorkedBrackets}

pub worked-brackets : WorkedBrackets
worked-brackets = record {
  found-behind = refl;
  lit-behind = refl;
  found-under = refl;
  lit-under = refl;
  opening-alone = refl;
  plain-opening = refl;
  closing-alone = refl;
  plain-closing = refl;
}
