-- What always holds of a buffer.
use Rattle.std.proofs.Common.{◌≡◌, ℕ, ◌-◌, ◌≤◌, List, length, Ok, Err, Result, IsOk, refl, arith, length-drop}
use Rattle.buffer.specs.Contents.{Becomes, contents, spare}
use Rattle.buffer.specs.declared.buffer.Buffer.{Buffer}
use Rattle.buffer.specs.declared.buffer.Full.{Full}
use Rattle.std.proofs.lemmas.List.{length-take-le}

pub len-inside : {N : ℕ} (b : Buffer N) → b.len ≤ length b.memory
len-inside b = omega (arith, b.whole, b.within)

pub length-contents : {N : ℕ} (b : Buffer N) → length (contents b) ≡ b.len
length-contents b = length-take-le b.len b.memory (len-inside b)

pub contents-short : {N : ℕ} (b : Buffer N) → length (contents b) ≤ N
contents-short b = omega (arith, length-contents b, b.within)

-- bytes for which there is room are taken
pub is_taken : {N : ℕ} (bytes : List ℕ) (before after : Buffer N) (r : Result Unit Full) → Becomes bytes before r after → length bytes ≤ N → IsOk r
is_taken bytes before after (Ok _) h l = refl
is_taken bytes before after (Err _) h l = absurd (omega (arith, h.0))

pub length-spare : {N : ℕ} (b : Buffer N) → length (spare b) ≡ N - length (contents b)
length-spare b = omega (arith, length-drop b.len b.memory, length-contents b, b.whole)
