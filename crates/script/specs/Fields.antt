-- What separates the fields of a line, and its words. Assumes nothing.
use Rattle.std.specs.Prelude.{ℕ, Bool, true, false, ◌||◌, ◌==◌, List, length, drop, take_while}
use Rattle.std.proofs.Math.Bool.{beq}

-- a space, a tab or a CR
abbrev pub is_blank : ℕ → Bool
is_blank b = b == 32 || (b == 9 || b == 13)

-- the bytes at a text's front that are blanks, or that are none
abbrev pub run_of : Bool → List ℕ → List ℕ
run_of blank text = take_while (λ b. beq (is_blank b) blank) text

-- what stands behind them
abbrev pub behind_run : Bool → List ℕ → List ℕ
behind_run blank text = drop (length (run_of blank text)) text

-- the first word: behind the first blanks, up to the next one
abbrev pub first_word : List ℕ → List ℕ
first_word text = run_of false (behind_run true text)

-- what stands behind the first word
abbrev pub behind_word : List ℕ → List ℕ
behind_word text = behind_run false (behind_run true text)
