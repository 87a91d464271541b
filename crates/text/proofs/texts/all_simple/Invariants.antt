use Rattle.std.proofs.Common.{◌≡◌, true, take}
use Rattle.text.specs.Texts.{GoodText}
use Rattle.text.proofs.texts.all_simple.Given as goal

-- the bytes so far are a good text, if all of them are simple
abbrev pub invariant-loop-byte : goal.invariant-loop-byte
invariant-loop-byte l = l.simple ≡ true → GoodText (take l.byte-index l.bytes)
