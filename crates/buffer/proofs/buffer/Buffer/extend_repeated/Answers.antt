use Rattle.std.proofs.Common.{◌*◌, ◌++◌, length, refl, ap, ◌∙◌, arith, length-append}
use Rattle.buffer.proofs.Buffers.{length-contents}
use Rattle.buffer.proofs.Repeats.{filled-below, filled-length, filled-more}
use Rattle.buffer.specs.Contents.{contents}
use Rattle.buffer.proofs.buffer.Buffer.extend_repeated.Goals as goal

pub returns-in_default-checked_mul : goal.returns-in_default-checked_mul
returns-in_default-checked_mul g c =
    let counted = ap (λ n. length c.args.text.now * n) c.from.ensures in
    (omega (arith, counted, c.in_default-checked_mul.ensures, filled-length (contents c.args.self.now) c.args.text.now c.args.count, g.N.fits), refl)

pub returns-then-added-self : goal.returns-then-added-self
returns-then-added-self g c =
    let counted = ap (λ n. length c.args.text.now * n) c.from.ensures in
    (omega (arith, counted, c.in-Some.ensures.1, filled-length (contents c.args.self.now) c.args.text.now c.args.count, length-contents c.args.self.now), refl)

pub append-requires : goal.append-requires
append-requires g c =
    let counted = ap (λ n. length c.args.text.now * n) c.from.ensures in
    let below = filled-below (contents c.args.self.now) c.args.text.now c.loop.counter c.args.count (omega (arith, c.loop-test.true)) in
    let before = ap (λ x. length (x ++ c.args.text.now)) c.loop.invariant in
    let both = length-append (contents c.loop.self) c.args.text.now in
    omega (arith, counted, c.in-Some.ensures.1, c.if-added-self.false, below, before, both, length-contents c.args.self.now)

pub loop-preserved : goal.loop-preserved
loop-preserved g c = c.append.ensures ∙ ap (λ x. x ++ c.args.text.now) c.loop.invariant ∙ filled-more (contents c.args.self.now) c.args.text.now c.loop.counter
