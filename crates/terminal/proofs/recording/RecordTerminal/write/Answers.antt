use Rattle.std.proofs.Common.{◌≡◌, ◌+◌, ◌-◌, ◌<◌, ◌≤◌, min, ◌++◌, length, take, drop, vec_items, sym, refl, ap, ◌∙◌, arith, length-take-le}
use Rattle.std.proofs.lemmas.List.{with_items_is}
use Rattle.std.proofs.lemmas.Slice.{take-put_mid, drop-put_mid}
use Rattle.std.proofs.lemmas.Bool.{eqb-false}
use borrow.Rule.Slice.PartMut.{put_mid, same_len_mid}
use Rattle.terminal.specs.Answers.{answer_for}
use Rattle.terminal.specs.Feeds.{took-some}
use Rattle.terminal.proofs.recording.RecordTerminal.write.Goals as goal

pub returns : goal.returns
returns g c =
    let r = c.args.self.now in
    let bytes = c.args.bytes.now in
    let k = c.min-count.result in
    let memory = c.deref_mut.result.now in
    let copied = c.copy_from_slice.new.self in
    let few : k ≤ length bytes = omega (arith, c.min-count.ensures) in
    let full = eqb-false (length bytes) 0 (sym c.is_empty.ensures ∙ c.if-is_empty.false) in
    let some : 0 < k = omega (arith, c.min-count.ensures, c.if-room-eq0.false) in
    let fits : r.len + k ≤ length memory = omega (arith, c.min-count.ensures, c.len.ensures, c.deref_mut.ensures.len) in
    let long : length copied ≡ k = ap length c.copy_from_slice.ensures.after ∙ length-take-le k bytes few in
    let whole = with_items_is r.memory (put_mid r.len (r.len + k - r.len) memory copied) (same_len_mid r.len (r.len + k - r.len) memory copied c.copy_from_slice.ensures.len ∙ c.deref_mut.ensures.len) in
    record {
      answer = took-some (length bytes) k some ∙ ap (answer_for (length bytes)) (c.min-count.ensures ∙ ap (λ n. min (length bytes) (n - r.len)) c.len.ensures);
      kept = ap (take (r.len + k)) whole ∙ take-put_mid r.len (r.len + k - r.len) memory copied (r.len + k) (omega (arith, long)) (omega (arith, fits)) ∙ ap (λ l. take r.len l ++ copied) c.deref_mut.ensures.value ∙ ap (λ l. take r.len (vec_items r.memory) ++ l) c.copy_from_slice.ensures.after;
      len = refl;
      rest = ap (drop (r.len + k)) whole ∙ drop-put_mid r.len (r.len + k - r.len) memory copied (r.len + k) (omega arith) (omega (arith, fits)) (omega (arith, long)) ∙ ap (drop (r.len + k)) c.deref_mut.ensures.value;
      memory = refl;
      size = refl;
    }
