-- The characters of good texts, and of their parts.
use Rattle.std.proofs.Common.{◌≡◌, ℕ, zero, suc, ◌+◌, ◌*◌, ◌≤◌, List, [], ◌∷◌, ◌++◌, length, take, drop, IsUtf8, sym, refl, ap, ◌∙◌, subst, append_assoc, append-nil, suc-mul, add_comm, zero-mul, arith, length-append}
use lib.Seq.{take-append_seam}
use lib.Utf8.{encode}
use Rattle.page.specs.Acts.{times}
use Rattle.page.specs.Rules.{AtBoundary, OneCharacter}
use Rattle.std.proofs.lemmas.List.{length-take-le, take-append-drop}
use Rattle.std.proofs.lemmas.Str.{IsCharBoundary-from_take, chars-append}
use Rattle.std.specs.Str.{chars}
use Rattle.text.proofs.Spelling.{good-text-append, good-text-cut, good-text-utf8}
use Rattle.text.proofs.Styling.{spells-styled}
pub use Rattle.text.proofs.Testing.{spells-decodes}
use Rattle.text.specs.Characters.{AllGood}
use Rattle.text.specs.Texts.{GoodText, Styled}

-- a good text's characters
pub good-decodes : (bs : List ℕ) → GoodText bs → AllGood (chars bs)
good-decodes bs g = (spells-decodes bs g).0

pub styled-decodes : (bs : List ℕ) → GoodText bs → Styled bs (chars bs)
styled-decodes bs g = spells-styled bs (chars bs) (spells-decodes bs g)

-- a text cut at a character
pub cut-decodes : (l : List ℕ) (q : ℕ) → AtBoundary l q → chars l ≡ chars (take q l) ++ chars (drop q l)
cut-decodes l q b = ap chars (sym (take-append-drop q l)) ∙ chars-append (take q l) (drop q l) b.1

pub good-cut : (l : List ℕ) (q : ℕ) → GoodText l → AtBoundary l q → GoodText (take q l) × GoodText (drop q l)
good-cut l q g b = good-text-cut l q g (IsCharBoundary-from_take l q (good-text-utf8 l g) b.0 b.1)

pub good_none : GoodText []
good_none = ([], (tt, refl))

pub good-times : (n : ℕ) (t : List ℕ) → GoodText t → GoodText (times n t)
good-times zero t g = good_none
good-times (suc n) t g = good-text-append t (times n t) g (good-times n t g)

pub one-good : (bs : List ℕ) → OneCharacter bs → GoodText bs
one-good bs (c, g, e) = (c ∷ [], ((g, tt), append-nil (encode c) ∙ e))

pub length-times : (n : ℕ) (t : List ℕ) → length (times n t) ≡ n * length t
length-times zero t = sym (zero-mul (length t))
length-times (suc n) t = length-append t (times n t) ∙ ap (λ k. length t + k) (length-times n t) ∙ sym (suc-mul n (length t) ∙ add_comm (n * length t) (length t))

-- a text put into another at a character
pub insert-good : (l t : List ℕ) (q n : ℕ) → GoodText l → AtBoundary l q → GoodText t → GoodText (take q l ++ (times n t ++ drop q l))
insert-good l t q n g b k =
    let c = good-cut l q g b in
    good-text-append (take q l) (times n t ++ drop q l) c.0 (good-text-append (times n t) (drop q l) (good-times n t k) c.1)

pub insert-front : (l t : List ℕ) (q n : ℕ) → q ≤ length l → take (q + n * length t) (take q l ++ (times n t ++ drop q l)) ≡ take q l ++ times n t
insert-front l t q n h =
    ap (λ (x : List ℕ). take (q + n * length t) x) (sym (append_assoc (take q l) (times n t) (drop q l)))
    ∙ ap (λ k. take k ((take q l ++ times n t) ++ drop q l)) (sym len)
    ∙ take-append_seam (take q l ++ times n t) (drop q l)
  where
    len : length (take q l ++ times n t) ≡ q + n * length t
    len = length-append (take q l) (times n t) ∙ (λ i. length-take-le q l h i + length-times n t i)

pub insert-boundary : (l t : List ℕ) (q n : ℕ) → GoodText l → AtBoundary l q → GoodText t → AtBoundary (take q l ++ (times n t ++ drop q l)) (q + n * length t)
insert-boundary l t q n g b k = (
  simp (length-append, length-times) (omega (arith, length-take-le q l b.0)),
  subst IsUtf8 (sym (insert-front l t q n b.0)) (good-text-utf8 (take q l ++ times n t) (good-text-append (take q l) (times n t) (good-cut l q g b).0 (good-times n t k))),
)
