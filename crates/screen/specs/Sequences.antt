-- What a control sequence does, by its parameter bytes and its final byte. Assumes nothing.
use Rattle.std.specs.Prelude.{◌≡◌, ℕ, suc, ◌+◌, ◌-◌, ◌*◌, min, max, Bool, true, false, cond, ◌&&◌, ◌≢◌, List, [], ◌∷◌, ◌++◌, codes, ◌==◌}
use Rattle.screen.specs.Bytes.{at, bottom, dropped, feed, holding, inked, is_digit, move, wiped, within}
use Rattle.screen.specs.Screen.{Geometry, Screen, rows_from}
use Rattle.screen.specs.declared.cells.Parser.TheVariants.{Ground}
use Rattle.std.specs.Str.{bytes_eq}
use Rattle.text.specs.Texts.{plain}

-- parameter bytes: 0x30 to 0x3F
abbrev pub are_parameters : List ℕ → Bool
are_parameters [] = true
are_parameters (b ∷ bs) = within 0x30 0x3F b && are_parameters bs

-- a number in decimal goes on with the digits up to the first byte that is none
abbrev pub number_from : ℕ → List ℕ → ℕ
number_from n [] = n
number_from n (b ∷ bs) = cond (is_digit b) (number_from (10 * n + (b - 48)) bs) n

-- the number in front of the first byte that is no digit, 0 where there is none
abbrev pub first_number : List ℕ → ℕ
first_number ps = number_from 0 ps

-- how far a move goes: the first number, where none or 0 means 1, and above 9,999 means 9,999
abbrev pub distance : List ℕ → ℕ
distance ps = max 1 (min (first_number ps) 9999)

-- A, B, C and D move, behind digits and semicolons only or nothing; bare H goes to the window's top left, bare J blanks to the window's end, bare K to
-- the row's; h and l behind ?2026 set and clear the held mark; anything else only ends the joining
abbrev pub commands : Geometry → List ℕ → ℕ → Screen → Screen
commands d ps f s =
    cond (plain ps && within 65 68 f) (move d f (distance ps) s) (
    cond (bytes_eq ps [] && f == 72) (at s.top 0 s) (
    cond (bytes_eq ps [] && f == 74) (inked (rows_from (suc s.pen.row) (bottom d s) (wiped d s)) s) (
    cond (bytes_eq ps [] && f == 75) (inked (wiped d s) s) (
    cond (bytes_eq ps (codes "?2026") && f == 104) (holding true s) (
    cond (bytes_eq ps (codes "?2026") && f == 108) (holding false s) (dropped s))))))

-- m changes nothing
abbrev pub sequence_does : Geometry → List ℕ → ℕ → Screen → Screen
sequence_does d ps f s = cond (f == 109) s (commands d ps f s)

-- whatever the parameter bytes, a final byte 0x40 to 0x7E does that, and another byte but ESC drops the sequence and itself
pub record Sequences (d : Geometry) (ps : List ℕ) (s : Screen) : Type 0 where
  pub finished : (f : ℕ) → within 0x40 0x7E f ≡ true → feed d (27 ∷ 91 ∷ (ps ++ (f ∷ []))) s ≡ sequence_does d ps f s
  pub broken : (b : ℕ) → within 0x30 0x7E b ≡ false → b ≢ 27 → feed d (27 ∷ 91 ∷ (ps ++ (b ∷ []))) s ≡ dropped s

-- each control sequence is read so, from a screen where nothing is unfinished
abbrev pub Reads : Type 0
Reads = (d : Geometry) (ps : List ℕ) (s : Screen) → are_parameters ps ≡ true → s.parser ≡ Ground → Sequences d ps s
