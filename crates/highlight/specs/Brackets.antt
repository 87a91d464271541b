-- Round, square and curly brackets in a line of bytes, and where a bracket's partner stands. Assumes nothing.
use Rattle.std.specs.Prelude.{◌≡◌, ℕ, zero, suc, ◌+◌, ◌-◌, ◌<◌, ◌≤◌, Bool, true, false, cond, ◌&&◌, ◌||◌, List, reverse, length, take, drop, Some, None, count_by, Option, ◌==◌, ◌≢◌, nat_eq, nat_le, nat_lt, slice_index, slice_index_or}
use Rattle.std.specs.Option.{option_map}
use Rattle.highlight.specs.declared.brackets.Bracket.{Bracket}
use Rattle.highlight.specs.declared.brackets.BracketKind.{BracketKind}
use Rattle.highlight.specs.declared.brackets.BracketKind.TheVariants.{Opening, Closing}

-- an opening bracket: ( [ {
abbrev pub is_open : ℕ → Bool
is_open b = b == 40 || (b == 91 || b == 123)

-- a closing bracket: ) ] }
abbrev pub is_close : ℕ → Bool
is_close b = b == 41 || (b == 93 || b == 125)

-- the bracket that goes with a bracket: ( and ), [ and ], { and }; another byte goes with itself
abbrev pub partner : ℕ → ℕ
partner b =
    cond (b == 40) 41 (cond (b == 41) 40 (cond (b == 91) 93 (cond (b == 93) 91 (cond (b == 123) 125 (cond (b == 125) 123 b)))))

-- the kind of a byte, if it is a bracket
abbrev pub bracket_kind : ℕ → Option BracketKind
bracket_kind b = cond (is_open b) (Some Opening) (cond (is_close b) (Some Closing) None)

-- the number of a bracket: 1 an opening one, whose partner is looked for behind it; 2 a closing one, whose partner is looked for before it; 0 no bracket
abbrev pub bracket_number : Bracket → ℕ
bracket_number b = cond (is_open b.byte) 1 (cond (is_close b.byte) 2 0)

-- the byte at an index of a line, as a bracket
abbrev pub bracket_at : List ℕ → ℕ → Bracket
bracket_at line i = record { byte = slice_index line i; at = i }

-- a bracket that may have a partner stands at an index: a closing one not at the start, an opening one not at the end
abbrev pub may_match : List ℕ → ℕ → Bool
may_match line i = (is_close (slice_index line i) && nat_lt 0 i) || (is_open (slice_index line i) && nat_lt (suc i) (length line))

-- the bracket at an index, if it may have a partner
abbrev pub candidate : List ℕ → ℕ → Option Bracket
candidate line i = cond (may_match line i) (Some (bracket_at line i)) None

-- the last byte of a line, if it is a closing bracket
abbrev pub last_closing : List ℕ → Option Bracket
last_closing line = cond (is_close (slice_index line (length line - 1))) (Some (bracket_at line (length line - 1))) None

-- the bracket at a position: from the end on only the last byte is looked at; else the byte under the position, and the one before it where the first is no bracket
abbrev pub checked : List ℕ → ℕ → Option Bracket
checked line pos =
    cond (nat_le (length line) pos) (last_closing line) (cond (is_open (slice_index line pos) || is_close (slice_index line pos)) (candidate line pos) (cond (nat_lt 0 pos) (candidate line (pos - 1)) None))

-- how often a byte stands among some bytes
abbrev pub count : ℕ → List ℕ → ℕ
count b bs = count_by (λ x. nat_eq x b) bs

-- a bracket and the bytes that follow it hold as many of its kind as of its partner
abbrev pub balances : ℕ → List ℕ → Bool
balances b bs = suc (count b bs) == count (partner b) bs

-- the least number below a bound that passes a test
abbrev pub least : (ℕ → Bool) → ℕ → Option ℕ
least p zero = None
least p (suc n) = cond (p zero) (Some zero) (option_map suc (least (λ k. p (suc k)) n))

-- the first index such that a bracket and the bytes up to there balance
abbrev pub partner_index : ℕ → List ℕ → Option ℕ
partner_index b bs = least (λ i. balances b (take (suc i) bs)) (length bs)

-- the partner of an opening bracket, among the bytes behind its index
abbrev pub partner_ahead : List ℕ → ℕ → ℕ → Option Bracket
partner_ahead line pos b = option_map (λ i. record { byte = partner b; at = pos + 1 + i }) (partner_index b (drop (pos + 1) line))

-- the partner of a closing bracket, among the bytes before its index, the nearest first
abbrev pub partner_before : List ℕ → ℕ → ℕ → Option Bracket
partner_before line pos b = option_map (λ i. record { byte = partner b; at = pos - 1 - i }) (partner_index b (reverse (take pos line)))

-- the partner of a bracket at an index of a line; none where the index lies too far past the line to look from, and of another byte
abbrev pub matching : List ℕ → ℕ → ℕ → Option Bracket
matching line pos b =
    cond (is_open b && nat_lt pos (length line)) (partner_ahead line pos b) (cond (is_close b && nat_le pos (length line)) (partner_before line pos b) None)

-- the byte at an index is the partner that first balances a bracket and the bytes up to there
pub record IsPartner (b : ℕ) (bs : List ℕ) (i : ℕ) : Type 0 where
  pub within : i < length bs
  pub byte : slice_index_or bs i 0 ≡ partner b
  pub balanced : suc (count b (take (suc i) bs)) ≡ count (partner b) (take (suc i) bs)
  pub first : (k : ℕ) → k < i → suc (count b (take (suc k) bs)) ≢ count (partner b) (take (suc k) bs)

-- the index of a bracket's partner, or none where nothing balances it
abbrev pub Partnered : ℕ → List ℕ → Option ℕ → Type 0
Partnered b bs None = (k : ℕ) → k < length bs → suc (count b (take (suc k) bs)) ≢ count (partner b) (take (suc k) bs)
Partnered b bs (Some i) = IsPartner b bs i

-- the partner that is answered for a bracket at an index of a line
pub record Matched (line : List ℕ) (pos b : ℕ) (r : Option Bracket) : Type 0 where
  pub ahead : is_open b ≡ true → pos < length line → (i : Option ℕ) × Partnered b (drop (pos + 1) line) i × (r ≡ option_map (λ k. record { byte = partner b; at = pos + 1 + k }) i)
  pub before : is_close b ≡ true → pos ≤ length line → (i : Option ℕ) × Partnered b (reverse (take pos line)) i × (r ≡ option_map (λ k. record { byte = partner b; at = pos - 1 - k }) i)
  pub opening_past : is_open b ≡ true → length line ≤ pos → r ≡ None
  pub closing-past : is_close b ≡ true → length line < pos → r ≡ None
  pub other : is_open b ≡ false → is_close b ≡ false → r ≡ None
