use Rattle.std.proofs.Common.{◌≡◌, ◌++◌}
use Rattle.std.specs.List.{repeat}
use Rattle.buffer.specs.Contents.{contents}
use Rattle.buffer.proofs.buffer.Buffer.extend_repeated.Given as goal

abbrev pub invariant-loop : goal.invariant-loop
invariant-loop g l = contents l.self ≡ contents l.initial.self ++ repeat l.counter l.text
