use Rattle.std.proofs.Common.{subst, arith}
use Rattle.std.proofs.lemmas.Bool.{and_parts}
use Rattle.std.proofs.lemmas.List.{take_all}
use Rattle.text.proofs.Simple.{simple-more, simple-none}
use Rattle.text.specs.Texts.{GoodText}
use Rattle.text.proofs.texts.all_simple.Goals as goal

pub loop-byte-init : goal.loop-byte-init
loop-byte-init c all = simple-none

pub loop-byte-preserved : goal.loop-byte-preserved
loop-byte-preserved c all =
    let both = and_parts c.loop-byte.simple c.is_simple-simple.result all in
    simple-more c.args.bytes.now c.loop-byte.byte-index c.loop-byte-test.true (c.loop-byte.invariant both.0) (c.is_simple-simple.ensures both.1)

pub returns : goal.returns
returns c all = subst GoodText (take_all c.loop-byte.byte-index c.args.bytes.now (omega (arith, c.loop-byte-test.false))) (c.loop-byte.invariant all)
