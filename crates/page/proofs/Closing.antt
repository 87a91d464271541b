-- A text that ends with LF, and what stands before it.
use Rattle.std.proofs.Common.{◌≡◌, ℕ, ◌+◌, ◌-◌, ◌<◌, true, eqb, List, [], ◌∷◌, ◌++◌, length, get_or, take, sym, refl, ap, ◌∙◌, arith}
use borrow.Author.Tests.{clash}
use Rattle.page.specs.Acts.{ends_line}
use Rattle.std.proofs.lemmas.List.{drop_all, drop_more, length-take-le, take-append-drop}
use Rattle.std.proofs.lemmas.Bool.{eqb-true}
use Rattle.std.proofs.lemmas.Str.{IsCharBoundary-before_ascii}
use Rattle.text.proofs.Spelling.{good-text-cut}
use Rattle.text.specs.Texts.{GoodText}

-- a text whose last byte is LF is its front and that LF
pub line-front : (t : List ℕ) → ends_line t ≡ true → t ≡ take (length t - 1) t ++ (10 ∷ [])
line-front [] e = absurd (clash e)
line-front (b ∷ bs) e =
    let h : get_or (b ∷ bs) (length (b ∷ bs) - 1) 0 ≡ 10 = eqb-true (get_or (b ∷ bs) (length (b ∷ bs) - 1) 0) 10 e in
    let n : length (b ∷ bs) - 1 < length (b ∷ bs) = omega arith in
    sym (take-append-drop (length (b ∷ bs) - 1) (b ∷ bs))
    ∙ ap (λ (x : List ℕ). take (length (b ∷ bs) - 1) (b ∷ bs) ++ x) (drop_more (b ∷ bs) (length (b ∷ bs) - 1) 0 n ∙ (λ i. h i ∷ drop_all (length (b ∷ bs) - 1 + 1) (b ∷ bs) (omega arith) i))

-- the front of a good text before an LF is good
pub front-good : (t : List ℕ) → GoodText t → t ≡ take (length t - 1) t ++ (10 ∷ []) → GoodText (take (length t - 1) t)
front-good t g e = (good-text-cut t (length t - 1) g (IsCharBoundary-before_ascii t (length t - 1) (some t e) (last t e))).0
  where
    some : (t : List ℕ) → t ≡ take (length t - 1) t ++ (10 ∷ []) → length t - 1 < length t
    some [] e = absurd (clash (ap (λ (x : List ℕ). eqb (length x) 0) (sym e)))
    some (b ∷ bs) e = omega arith

    last : (t : List ℕ) → t ≡ take (length t - 1) t ++ (10 ∷ []) → get_or t (length t - 1) 0 < 128
    last t e = let h : get_or t (length t - 1) 0 ≡ 10 = ap (λ (x : List ℕ). get_or x (length t - 1) 0) e ∙ get_or-seam (take (length t - 1) t) 10 (length t - 1) (length-take-le (length t - 1) t (omega arith)) in omega arith
      where
        get_or-seam : (xs : List ℕ) (x n : ℕ) → length xs ≡ n → get_or (xs ++ (x ∷ [])) n 0 ≡ x
        get_or-seam [] x n e = ap (λ k. get_or (x ∷ []) k 0) (sym e)
        get_or-seam (y ∷ ys) x n e = ap (λ k. get_or (y ∷ (ys ++ (x ∷ []))) k 0) (sym e) ∙ get_or-seam ys x (length ys) refl
