-- The writes of a session that holds no updates leave nothing behind ESC that could set the held mark.
use Rattle.std.proofs.Common.{◌≡◌, ℕ, zero, suc, ◌-◌, ◌^◌, ◌<◌, Bool, true, false, eqb, ltb, ◌≢◌, List, [], ◌∷◌, ◌++◌, length, get_or, decimal, sym, refl, ◌∙◌, append-nil, arith}
use lib.Utf8.{encode}
use Rattle.screen.proofs.Calming.{Rests, calm, rests-append, rests-byte, rests-none, rests-sequence}
use Rattle.screen.proofs.Erasing.{plain-decimal}
use Rattle.screen.specs.Output.{clear_bytes, closing, down_by, draw_bytes, erase_bytes, move_by, move_bytes, rows_up, shift_by, shift_from, to_column, up_by}
use Rattle.screen.specs.Screen.{Geometry, block, full, place_col, place_row}
use Rattle.std.proofs.lemmas.Bool.{cond_both, eqb-false}
use Rattle.std.proofs.lemmas.Str.{inside_one}
use Rattle.text.proofs.Spelling.{good-not-esc}
use Rattle.text.specs.Characters.{Good}
use Rattle.text.specs.Texts.{Styled, dyes, ends, shows, style}

-- a move's bytes
pub rests-move : (b n : ℕ) → n < 2 ^ 64 → b ≢ 27 → b ≢ 63 → Rests (move_by b n)
rests-move b n h x y = rests-sequence (decimal n) b (plain-decimal n h) x y

rests-bare : (b : ℕ) → b ≢ 27 → b ≢ 63 → Rests (27 ∷ 91 ∷ b ∷ [])
rests-bare b x y = rests-sequence [] b refl x y

ne : (a b : ℕ) → eqb a b ≡ false → a ≢ b
ne a b e = eqb-false a b e

rests-down : (k : ℕ) → k < 2 ^ 64 → Rests (down_by k)
rests-down zero h = rests-none
rests-down (suc k) h = rests-move 66 (suc k) h (ne 66 27 refl) (ne 66 63 refl)

rests-up : (k : ℕ) → k < 2 ^ 64 → Rests (up_by k)
rests-up zero h = rests-none
rests-up (suc k) h = rests-move 65 (suc k) h (ne 65 27 refl) (ne 65 63 refl)

rests-rows : (n : ℕ) → Rests (rows_up n)
rests-rows zero = rests-append (13 ∷ []) (27 ∷ 91 ∷ 75 ∷ []) (rests-byte 13 (ne 13 27 refl)) (rests-bare 75 (ne 75 27 refl) (ne 75 63 refl))
rests-rows (suc n) =
    rests-append (13 ∷ []) (27 ∷ 91 ∷ 75 ∷ (27 ∷ 91 ∷ 65 ∷ rows_up n)) (rests-byte 13 (ne 13 27 refl))
    (rests-append (27 ∷ 91 ∷ 75 ∷ []) (27 ∷ 91 ∷ 65 ∷ rows_up n) (rests-bare 75 (ne 75 27 refl) (ne 75 63 refl))
    (rests-append (27 ∷ 91 ∷ 65 ∷ []) (rows_up n) (rests-bare 65 (ne 65 27 refl) (ne 65 63 refl)) (rests-rows n)))

pub rests-erase : (k n : ℕ) → k < 2 ^ 64 → Rests (erase_bytes k n)
rests-erase k n h = rests-append (down_by k) (rows_up n) (rests-down k h) (rests-rows n)

rests-column : (j : ℕ) → j < 2 ^ 64 → Rests (to_column j)
rests-column zero h = rests-byte 13 (ne 13 27 refl)
rests-column (suc j) h = rests-append (13 ∷ []) (move_by 67 (suc j)) (rests-byte 13 (ne 13 27 refl)) (rests-move 67 (suc j) h (ne 67 27 refl) (ne 67 63 refl))

rests-closing : (b : Bool) → Rests (closing b)
rests-closing true = rests-byte 10 (ne 10 27 refl)
rests-closing false = rests-none

-- a styled text
rests-char : (c : ℕ) → Good c → Rests (encode c)
rests-char c g = go (encode c) (no-escape c g)
  where
    go : (bs : List ℕ) → ((i : ℕ) → i < length bs → get_or bs i 0 ≢ 27) → Rests bs
    go [] h = rests-none
    go (b ∷ bs) h = rests-append (b ∷ []) bs (rests-byte b (h 0 (omega arith))) (go bs (λ i l. h (suc i) (omega arith)))

    no-escape : (c : ℕ) → Good c → (i : ℕ) → i < length (encode c) → get_or (encode c) i 0 ≢ 27
    no-escape c g i h e = good-not-esc c g (inside_one c [] (encode c) i (sym (append-nil (encode c))) h (omega arith) ∙ e)

pub rests-styled : (bs cs : List ℕ) → Styled bs cs → Rests bs
rests-styled bs cs ends = rests-none
rests-styled bs cs (shows c {bs = x} {cs = y} h t) = rests-append (encode c) x (rests-char c h) (rests-styled x y t)
rests-styled bs cs (dyes ps {bs = x} h t) = rests-append (style ps) x (rests-sequence ps 109 h (ne 109 27 refl) (ne 109 63 refl)) (rests-styled x cs t)

pub rests-draw : (d : Geometry) (bs ds es : List ℕ) → Styled bs ds → place_row d (block d ds) < 2 ^ 64 → place_col d (block d es) < 2 ^ 64 → Rests (draw_bytes d bs ds es)
rests-draw d bs ds es st h k =
    rests-append bs _ (rests-styled bs ds st) (rests-append (closing (full d (block d ds))) _ (rests-closing (full d (block d ds)))
    (rests-append (up_by (place_row d (block d ds) - place_row d (block d es))) (to_column (place_col d (block d es))) (rests-up (place_row d (block d ds) - place_row d (block d es)) (omega arith)) (rests-column (place_col d (block d es)) k)))

rests-shift : (b n : ℕ) → n < 2 ^ 64 → b ≢ 27 → b ≢ 63 → Rests (shift_by b n)
rests-shift b zero h x y = rests-none
rests-shift b (suc zero) h x y = rests-bare b x y
rests-shift b (suc (suc n)) h x y = rests-move b (suc (suc n)) h x y

rests-from : (a b i k : ℕ) → i < 2 ^ 64 → k < 2 ^ 64 → a ≢ 27 → a ≢ 63 → b ≢ 27 → b ≢ 63 → Rests (shift_from a b i k)
rests-from a b i k h l x y u v = cond_both (ltb i k) (shift_by a (k - i)) (shift_by b (i - k)) Rests (λ e. rests-shift a (k - i) (omega arith) x y) (λ e. rests-shift b (i - k) (omega arith) u v)

pub rests-moves : (i j k l : ℕ) → i < 2 ^ 64 → j < 2 ^ 64 → k < 2 ^ 64 → l < 2 ^ 64 → Rests (move_bytes i j k l)
rests-moves i j k l a b c e =
    rests-append (shift_from 66 65 i k) (shift_from 67 68 j l) (rests-from 66 65 i k a c (ne 66 27 refl) (ne 66 63 refl) (ne 65 27 refl) (ne 65 63 refl)) (rests-from 67 68 j l b e (ne 67 27 refl) (ne 67 63 refl) (ne 68 27 refl) (ne 68 63 refl))

-- home and erase, behind anything
pub calm-clear : (ys : List ℕ) → calm false false ys ≡ true → calm true true (clear_bytes ++ ys) ≡ true
unfolding calm
calm-clear ys h = h

pub rests-clear : Rests clear_bytes
rests-clear = rests-append (27 ∷ 91 ∷ 72 ∷ []) (27 ∷ 91 ∷ 74 ∷ []) (rests-bare 72 (ne 72 27 refl) (ne 72 63 refl)) (rests-bare 74 (ne 74 27 refl) (ne 74 63 refl))
