-- How a report spells acts, bytes and cells. Assumes nothing.
use Rattle.std.specs.Prelude.{ℕ, ◌+◌, ◌==◌, nat_lt, cond, List, codes}
use Rattle.page.specs.Acts.{Act, create, insert, set, go, refresh, message, notice, clear, finish}

-- the word that a script has for an act
abbrev pub name_of : Act → List ℕ
name_of create = codes "create"
name_of (insert text count) = codes "insert"
name_of (set line pos) = codes "set"
name_of (go pos) = codes "go"
name_of refresh = codes "refresh"
name_of (message text) = codes "message"
name_of (notice text) = codes "notice"
name_of clear = codes "clear"
name_of finish = codes "finish"

-- the hexadecimal digit of a number below 16: 0 to 9, and then A to F
abbrev pub digit_of : ℕ → ℕ
digit_of n = cond (nat_lt n 10) (48 + n) (55 + n)

-- the sign that stands for a cell's character: U+00B7 for a space, which would look like a blank, else itself
abbrev pub sign_of : ℕ → ℕ
sign_of c = cond (c == 32) 183 c
