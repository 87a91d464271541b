use Rattle.std.proofs.Common.{◌-◌, min, refl, sym, ap, ◌∙◌}
use Rattle.buffer.proofs.Buffers.{len-inside}
use Rattle.buffer.proofs.Spares.{grown, kept, lent}
use Rattle.buffer.proofs.buffer.Buffer.extend_with.Goals as goal

pub returns-in_err-count : goal.returns-in_err-count
returns-in_err-count g c =
    let b = c.args.self.now in
    let room = c.write.new.arg2 in
    rw c.from_residual.ensures (room, record { shown = _; shows = lent b.memory b.len (len-inside b); left = _; met = c.in_err-count.ensures; leaves = refl }, kept b.memory b.len (len-inside b) room _ c.write.auto.arg2)

pub returns : goal.returns
returns g c =
    let b = c.args.self.now in
    let room = c.write.new.arg2 in
    let fits = c.min.ensures ∙ ap (λ n. min c.in_ok-count.count (n - b.len)) (sym b.whole) in
    (room, record { shown = _; shows = lent b.memory b.len (len-inside b); left = _; met = c.in_ok-count.ensures; leaves = refl }, grown b.memory b.len (len-inside b) room _ c.write.auto.arg2 c.in_ok-count.count _ fits)
