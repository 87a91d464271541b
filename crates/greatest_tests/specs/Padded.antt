-- A text behind the sequence shows the same, and is 256 bytes longer. Assumes nothing.
use Rattle.std.proofs.Common.{◌≡◌, ℕ, ◌+◌, ◌-◌, ◌≤◌, List, ◌++◌, length, take, drop, replicate, sym, refl, ap, subst, ◌∙◌, arith, length-append}
use Rattle.std.proofs.lemmas.List.{drop-drop}
use Rattle.text.specs.Texts.{Styled, dyes}
use Rattle.highlight.specs.Answers.{Shows, Written}
use Rattle.greatest_tests.specs.Padding.{padding, padded}

long : length padding ≡ 256
long = refl

pub padded-shown : {cs text lit : List ℕ} → Styled text cs → lit ≡ padded text → Shows cs text lit
padded-shown {cs} {text} {lit} s e =
    record {
      visible = subst (λ l. Styled l cs) (sym e) (dyes (replicate 253 48) refl s);
      short = omega (arith, ap length e, length-append padding text, long);
    }

-- lists that agree from an index on agree from a later one on
pub drop-later : (xs ys : List ℕ) (m n : ℕ) → m ≤ n → drop m xs ≡ drop m ys → drop n xs ≡ drop n ys
drop-later xs ys m n h e =
    let later : n ≡ m + (n - m) = omega arith in
    rw later (sym (drop-drop (n - m) m xs) ∙ ap (drop (n - m)) e ∙ drop-drop (n - m) m ys)

-- the sequence and a text, written one behind the other to the front of a place
pub padded-written : {text before last : List ℕ} (first : List ℕ) → length text + 256 ≤ length before → take 256 first ≡ padding → drop 256 first ≡ drop 256 before → take (256 + length text) last ≡ take 256 first ++ text → drop (256 + length text) last ≡ drop (256 + length text) first → Written (λ lit. lit ≡ padded text) text before (length text + 256) last
padded-written {text} {before} {last} first room front rest front' rest' =
    let n : length text + 256 ≡ 256 + length text = omega arith in
    record {
      room = room;
      within = room;
      answer = rw n (front' ∙ ap (λ l. l ++ text) front);
      rest = rw n (rest' ∙ drop-later first before 256 (256 + length text) (omega arith) rest);
    }
