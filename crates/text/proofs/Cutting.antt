-- Good texts taken piece by piece. Assumes nothing.
use Rattle.std.proofs.Common.{◌≡◌, ℕ, ◌<◌, ◌≤◌, List, [], ◌∷◌, ◌++◌, length, take, drop, IsUtf8, min, sym, refl, ap, ◌∙◌, subst, append_assoc, append-nil, arith, length-append}
use lib.Utf8.{encode, encodes}
use Rattle.std.proofs.lemmas.List.{nil_from_length, take_at}
use Rattle.std.proofs.lemmas.Str.{length-encode, len_utf8_bounds, IsCharBoundary-from_take, IsUtf8-encode}
use Rattle.std.specs.Str.{IsCharBoundary}
use Rattle.text.specs.Texts.{GoodText}
use Rattle.text.proofs.Simple.{simple-none}
use Rattle.text.proofs.Spelling.{good-text-append, good-text-cut, good-text-utf8}

-- in a good text a character ends within the first four bytes
pub piece-there : (bs : List ℕ) (most : ℕ) → most ≡ min (length bs) 512 → ((k : ℕ) → 1 ≤ k → k ≤ most → IsCharBoundary bs k → ⊥) → 0 < length bs → GoodText bs → ⊥
piece-there bs most e none some ([], s) = omega (arith, ap length s.1)
piece-there bs most e none some (c ∷ cs, s) =
    let n = length (encode c) in
    let b = len_utf8_bounds c in
    let l = length-encode c in
    let whole : length (encode c ++ encodes cs) ≡ length bs = ap length s.1 in
    let more = length-append (encode c) (encodes cs) in
    let cut : take n bs ≡ encode c = ap (take n) (sym s.1) ∙ take_at (encode c) (encodes cs) n refl in
    none n (omega (arith, l, b)) (omega (arith, l, b, whole, more)) (IsCharBoundary-from_take bs n (good-text-utf8 bs (c ∷ cs, s)) (omega (arith, whole, more)) (subst IsUtf8 (sym cut) (IsUtf8-encode c s.0.0.0)))

-- the bytes before what is left are a good text, and if the whole is one, what is left is one
pub record GoodTo (bs rest : List ℕ) : Type 0 where
  pub front : List ℕ
  pub bytes : bs ≡ front ++ rest
  pub good : GoodText front
  pub left : GoodText bs → GoodText rest

pub good-none : (bs : List ℕ) → GoodTo bs bs
good-none bs = record { front = []; bytes = refl; good = simple-none; left = λ g. g }

-- one good piece further
pub good-more : (bs rest piece after : List ℕ) → GoodTo bs rest → rest ≡ piece ++ after → GoodText piece → (GoodText rest → GoodText after) → GoodTo bs after
good-more bs rest piece after w e g next = record {
  front = w.front ++ piece;
  bytes = w.bytes ∙ ap (λ l. w.front ++ l) e ∙ sym (append_assoc w.front piece after);
  good = good-text-append w.front piece w.good g;
  left = λ h. next (w.left h);
}

-- when nothing is left, the whole is a good text
pub good-all : (bs rest : List ℕ) → length rest ≡ 0 → GoodTo bs rest → GoodText bs
good-all bs rest e w = subst GoodText (sym (w.bytes ∙ ap (λ l. w.front ++ l) (nil_from_length rest e) ∙ append-nil w.front)) w.good

-- a piece that ends where a character does is cut off
pub cut-off : (rest piece after : List ℕ) (n : ℕ) → piece ≡ take n rest → after ≡ drop n rest → IsCharBoundary rest n → GoodText rest → GoodText piece × GoodText after
cut-off rest piece after n p a b g = let k = good-text-cut rest n g b in (subst GoodText (sym p) k.0, subst GoodText (sym a) k.1)
