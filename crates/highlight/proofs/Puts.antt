-- Bytes written one after another to the front of a place. Assumes nothing.
use Rattle.std.proofs.Common.{◌≡◌, ℕ, ◌+◌, ◌-◌, ◌≤◌, List, [], ◌++◌, length, take, drop, sym, refl, ap, ◌∙◌, arith}
use Rattle.std.proofs.lemmas.List.{drop-drop}

-- the first n bytes of a place are written, and the rest is as it was
pub record Front (before now : List ℕ) (n : ℕ) (written : List ℕ) : Type 0 where
  pub bytes : take n now ≡ written
  pub rest : drop n now ≡ drop n before

pub front-none : (before : List ℕ) → Front before before 0 []
front-none before = record { bytes = refl; rest = refl }

-- lists that agree from an index on agree from a later one on
drop-later : (xs ys : List ℕ) (m n : ℕ) → m ≤ n → drop m xs ≡ drop m ys → drop n xs ≡ drop n ys
drop-later xs ys m n h e =
    let later : n ≡ m + (n - m) = omega arith in
    rw later (sym (drop-drop (n - m) m xs) ∙ ap (drop (n - m)) e ∙ drop-drop (n - m) m ys)

pub front-more : {before now : List ℕ} {n : ℕ} {written : List ℕ} (next more : List ℕ) (end : ℕ) → Front before now n written → end ≡ n + length more → take end next ≡ take n now ++ more → drop end next ≡ drop end now → Front before next end (written ++ more)
front-more {before} {now} {n} {written} next more end f long bytes rest =
    record { bytes = bytes ∙ ap (λ l. l ++ more) f.bytes; rest = rest ∙ drop-later now before n end (omega arith) f.rest }
