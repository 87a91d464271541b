use Rattle.std.proofs.Common.{length, ap, rules}
use Rattle.std.proofs.lemmas.Slice.{overwrites}
use Rattle.greatest_tests.proofs.verbose.put.Goals as goal

pub returns-clause-rest : goal.returns-clause-rest
returns-clause-rest c = let long = ap length c.copy_from_slice.ensures.after in search (rules, overwrites)
