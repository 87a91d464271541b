-- What the fields of a line say, and which act they make behind a verb. Assumes nothing.
use Rattle.std.specs.Prelude.{ℕ, true, cond, ◌==◌, nat_lt, ◌^◌, List, [], ◌∷◌, length, Some, None, Option, vec_items}
use Rattle.script.specs.Fields.{behind_run, first_word, behind_word}
use Rattle.script.specs.Numbers.{number_of}
use Rattle.script.specs.Strings.{Reading, meant, unclosed, misspelt, read_from}
use Rattle.script.specs.declared.escape.Spot.TheVariants.{Plain}
use Rattle.script.specs.declared.act.ScriptAct.{ScriptAct}
use Rattle.script.specs.declared.act.ScriptAct.TheVariants as acts
use Rattle.script.specs.declared.act.Verb.{Verb}
use Rattle.script.specs.declared.act.Verb.TheVariants as verbs

-- an act, its strings as bytes
pub data Deed : Type 0 where
  create : Deed
  insert : List ℕ → ℕ → Deed
  set : List ℕ → ℕ → Deed
  go : ℕ → Deed
  refresh : Deed
  message : List ℕ → Deed
  notice : List ℕ → Deed
  clear : Deed
  finish : Deed

-- the deed that an act of a script is
abbrev pub deed_of : ScriptAct → Deed
deed_of acts.Create = create
deed_of (acts.Insert text times) = insert (vec_items text) times
deed_of (acts.Set line pos) = set (vec_items line) pos
deed_of (acts.Go pos) = go pos
deed_of acts.Refresh = refresh
deed_of (acts.Message text) = message (vec_items text)
deed_of (acts.Notice text) = notice (vec_items text)
deed_of acts.Clear = clear
deed_of acts.Finish = finish

-- what comes of a value, where there is one
abbrev pub given : {A B : Type 0} → Option A → (A → Option B) → Option B
given None f = None
given (Some x) f = f x

-- a value with nothing but blanks behind it
abbrev pub ended : {A : Type 0} → A → List ℕ → Option A
ended x text = cond (length (behind_run true text) == 0) (Some x) None

-- a number below a bound
abbrev pub below : ℕ → Option ℕ → Option ℕ
below bound None = None
below bound (Some n) = cond (nat_lt n bound) (Some n) None

-- the number that comes next, below 2^64
abbrev pub number_at : List ℕ → Option ℕ
number_at text = below (2 ^ 64) (number_of (first_word text))

-- the number that comes next, at most 65,535
abbrev pub small_at : List ℕ → Option ℕ
small_at text = below (2 ^ 16) (number_at text)

-- what is read, where it can be read
abbrev pub when_meant : Reading → Option (List ℕ × List ℕ)
when_meant (meant bytes rest) = Some (bytes, rest)
when_meant unclosed = None
when_meant misspelt = None

-- the string whose opening mark begins a text, and what stands behind its closing mark
abbrev pub quoted : List ℕ → Option (List ℕ × List ℕ)
quoted [] = None
quoted (b ∷ bs) = cond (b == 34) (when_meant (read_from bs Plain)) None

-- the string that comes next, and what stands behind it
abbrev pub string_at : List ℕ → Option (List ℕ × List ℕ)
string_at text = quoted (behind_run true text)

-- the same of fields with nothing behind them
abbrev pub last_number_at : List ℕ → Option ℕ
last_number_at text = given (number_at text) (λ n. ended n (behind_word text))

abbrev pub last_small_at : List ℕ → Option ℕ
last_small_at text = given (small_at text) (λ n. ended n (behind_word text))

abbrev pub last_string_at : List ℕ → Option (List ℕ)
last_string_at text = given (string_at text) (λ s. ended s.0 s.1)

-- the act that a verb and the fields behind it say; none where they say none
abbrev pub act_of : Verb → List ℕ → Option Deed
act_of verbs.Create text = ended create text
act_of verbs.Insert text = given (string_at text) (λ s. given (last_small_at s.1) (λ n. Some (insert s.0 n)))
act_of verbs.Set text = given (string_at text) (λ s. given (last_number_at s.1) (λ n. Some (set s.0 n)))
act_of verbs.Go text = given (last_number_at text) (λ n. Some (go n))
act_of verbs.Refresh text = ended refresh text
act_of verbs.Message text = given (last_string_at text) (λ s. Some (message s))
act_of verbs.Notice text = given (last_string_at text) (λ s. Some (notice s))
act_of verbs.Clear text = ended clear text
act_of verbs.Finish text = ended finish text
