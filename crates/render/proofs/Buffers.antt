-- One push behind the other.
use Rattle.buffer.specs.Contents.{Becomes, contents}
use Rattle.buffer.specs.declared.buffer.Buffer.{Buffer}
use Rattle.buffer.specs.declared.buffer.Full.{Full}
use Rattle.std.proofs.Common.{◌≡◌, ℕ, ◌+◌, List, ◌++◌, length, Ok, Err, Result, ap, ◌∙◌, append_assoc, length-append}

-- bytes for which there was room
pub grown : {N : ℕ} (bytes : List ℕ) (before after : Buffer N) (r : Result Unit Full) (u : Unit) → r ≡ Ok u → Becomes bytes before r after → contents after ≡ bytes
grown bytes before after (Ok x) u e h = h.1
grown bytes before after (Err x) u e h = absurd (cc)

pub push-length : (now before bytes : List ℕ) → now ≡ before ++ bytes → length now ≡ length before + length bytes
push-length now before bytes e = ap length e ∙ length-append before bytes

pub push-push : (before now end xs ys : List ℕ) → now ≡ before ++ xs → end ≡ now ++ ys → end ≡ before ++ (xs ++ ys)
push-push before now end xs ys p q = q ∙ ap (λ l. l ++ ys) p ∙ append_assoc before xs ys

pub push-three : (before one two end xs ys zs : List ℕ) → one ≡ before ++ xs → two ≡ one ++ ys → end ≡ two ++ zs → end ≡ before ++ (xs ++ (ys ++ zs))
push-three before one two end xs ys zs p q r = push-push before one end xs (ys ++ zs) p (push-push one two end ys zs q r)
