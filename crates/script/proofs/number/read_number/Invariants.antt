use Rattle.std.proofs.Common.{◌≡◌, drop}
use Rattle.script.specs.Numbers.{number_of, spelled}
use Rattle.script.proofs.number.read_number.Given as goal

-- the digits so far say the value
abbrev pub invariant-loop-byte : goal.invariant-loop-byte
invariant-loop-byte l = number_of l.word ≡ spelled (drop l.byte-index l.word) l.value
