use Rattle.std.proofs.Common.{rules}
use Rattle.greatest_tests.specs.Padded.{padded-written}
use Rattle.greatest_tests.proofs.verbose.answer.Goals as goal

pub returns : goal.returns
returns c = padded-written _ (search rules) c.put.ensures.front c.put.ensures.rest c.put-2.ensures.front c.put-2.ensures.rest
