-- What a quoted string means. Assumes nothing.
use Rattle.std.specs.Prelude.{◌≡◌, ℕ, ◌+◌, ◌-◌, ◌*◌, ◌%◌, ◌≤◌, cond, ◌&&◌, List, [], ◌∷◌, ◌++◌, length, drop, Some, None, Ok, Err, vec_items, Option, Result, ◌==◌, nat_le}
use Rattle.script.specs.declared.escape.Spot.{Spot}
use Rattle.script.specs.declared.escape.Spot.TheVariants.{Plain, Escape, High, Low}
use Rattle.script.specs.declared.escape.Step.{Step}
use Rattle.script.specs.declared.escape.Step.TheVariants.{Goes, Gives, Closes}
use Rattle.script.specs.declared.escape.Quoted.{Quoted}
use Rattle.script.specs.declared.escape.StringFault.{StringFault}
use Rattle.script.specs.declared.escape.StringFault.TheVariants as faults

-- the value of a hexadecimal digit
abbrev pub digit_of : ℕ → Option ℕ
digit_of b =
    cond (nat_le 48 b && nat_le b 57) (Some (b - 48))
    (cond (nat_le 65 b && nat_le b 70) (Some (b - 65 + 10)) (cond (nat_le 97 b && nat_le b 102) (Some (b - 97 + 10)) None))

-- behind a backslash: n, t, r, e, the backslash, the mark, or x with two digits to come; none else
abbrev pub escape_of : ℕ → Option Step
escape_of b =
    cond (b == 110) (Some (Gives 10)) (cond (b == 116) (Some (Gives 9)) (cond (b == 114) (Some (Gives 13)) (cond (b == 101) (Some (Gives 27))
    (cond (b == 92) (Some (Gives 92)) (cond (b == 34) (Some (Gives 34)) (cond (b == 120) (Some (Goes High)) None))))))

-- the first of two digits
abbrev pub high_of : Option ℕ → Option Step
high_of None = None
high_of (Some d) = Some (Goes (Low d))

-- the second, behind one of value h
abbrev pub low_of : ℕ → Option ℕ → Option Step
low_of h None = None
low_of h (Some d) = Some (Gives ((h * 16 % 256 + d) % 256))

-- what a byte does; none where it belongs to no escape
abbrev pub step_of : Spot → ℕ → Option Step
step_of Plain b = Some (cond (b == 34) Closes (cond (b == 92) (Goes Escape) (Gives b)))
step_of Escape b = escape_of b
step_of High b = high_of (digit_of b)
step_of (Low h) b = low_of h (digit_of b)

-- what comes of reading: the string and what stands behind its closing mark, or the fault
pub data Reading : Type 0 where
  meant : List ℕ → List ℕ → Reading
  unclosed : Reading
  misspelt : Reading

-- bytes before what is still to be read
abbrev pub behind : List ℕ → Reading → Reading
behind xs (meant ys rest) = meant (xs ++ ys) rest
behind xs unclosed = unclosed
behind xs misspelt = misspelt

-- a byte that does so, with the rest read at each spot and the text behind it
abbrev pub doing : Option Step → (Spot → Reading) → List ℕ → Reading
doing (Some (Goes s)) rest bs = rest s
doing (Some (Gives v)) rest bs = behind (v ∷ []) (rest Plain)
doing (Some Closes) rest bs = meant [] bs
doing None rest bs = misspelt

-- reading from a spot
abbrev pub read_from : List ℕ → Spot → Reading
read_from [] s = unclosed
read_from (b ∷ bs) s = doing (step_of s b) (read_from bs) bs

-- what a call says of the text behind an opening mark
abbrev pub Reads : List ℕ → Result Quoted StringFault → Type 0
Reads text (Ok q) = (read_from text Plain ≡ meant (vec_items q.bytes) (drop q.len text)) × (q.len ≤ length text)
Reads text (Err faults.Unclosed) = read_from text Plain ≡ unclosed
Reads text (Err faults.Escape) = read_from text Plain ≡ misspelt
Reads text (Err faults.Memory) = Unit {0}
