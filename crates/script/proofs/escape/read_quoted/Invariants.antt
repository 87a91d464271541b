use Rattle.std.proofs.Common.{◌≡◌, drop, vec_items}
use Rattle.script.specs.declared.escape.Spot.TheVariants.{Plain}
use Rattle.script.specs.Strings.{behind, read_from}
use Rattle.script.proofs.escape.read_quoted.Given as goal

-- the bytes so far stand before what is still to be read
abbrev pub invariant-loop-i : goal.invariant-loop-i
invariant-loop-i l = read_from l.text Plain ≡ behind (vec_items l.bytes) (read_from (drop l.i l.text) l.spot)
