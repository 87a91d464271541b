-- Good texts: one list of characters each, put together and taken apart. Assumes nothing.
use Rattle.std.proofs.Common.{◌≡◌, ℕ, ◌<◌, Bool, true, false, Decides, List, [], ◌∷◌, ◌++◌, length, get_or, take, drop, None, IsUtf8, sym, refl, ◌∙◌, subst, ⊎_elim, true≢false, arith, length-append, take-append-drop}
use lib.Utf8.{scalar, scalars, encode}
use Rattle.std.proofs.lemmas.Str.{char_from_byte, cons_from_encodes, encode_same, encodes-append, encodes_same, length-encode, IsUtf8-drop, IsUtf8-take, len_utf8_bounds}
use Rattle.std.proofs.lemmas.Bool.{and_from}
use Rattle.std.proofs.lemmas.Bool.Decides.{not_from_Decides}
use Rattle.std.specs.Bool.{then_some}
use Rattle.std.specs.Str.{IsCharBoundary}
use Rattle.text.specs.Characters.{Good, AllGood}
use Rattle.text.specs.Decoding.{Front}
use Rattle.text.specs.Pieces.{GoodFront}
use Rattle.text.specs.Texts.{Spells, GoodText}
use Rattle.text.specs.declared.decode.Decoded.{Decoded}

pub encode-some : (c : ℕ) (rest : List ℕ) → 0 < length (encode c ++ rest)
encode-some c rest = omega (arith, length-append (encode c) rest, length-encode c, len_utf8_bounds c)

-- ESC is no good character, and begins none
pub good-not-esc : (c : ℕ) → Good c → c ≡ 27 → ⊥
good-not-esc c g e = ⊎_elim (λ (p : 27 ≡ 10). omega arith) true≢false (subst Good e g).1

pub good-lead : (c : ℕ) (rest : List ℕ) → Good c → get_or (encode c ++ rest) 0 0 ≡ 27 → ⊥
good-lead c rest g e = good-not-esc c g (char_from_byte (encode c ++ rest) rest c refl (omega arith) (encode-some c rest) ∙ e)

pub all-good-append : (cs ds : List ℕ) → AllGood cs → AllGood ds → AllGood (cs ++ ds)
all-good-append [] ds g h = h
all-good-append (c ∷ cs) ds g h = (g.0, all-good-append cs ds g.1 h)

pub spells-append : (xs ys cs ds : List ℕ) → Spells xs cs → Spells ys ds → Spells (xs ++ ys) (cs ++ ds)
spells-append xs ys cs ds s t = (all-good-append cs ds s.0 t.0, encodes-append cs ds ∙ (λ i. s.1 i ++ t.1 i))

pub spells-same : (bs cs ds : List ℕ) → Spells bs cs → Spells bs ds → cs ≡ ds
spells-same bs cs ds s t = encodes_same cs ds (s.1 ∙ sym t.1)

pub good-text-append : (xs ys : List ℕ) → GoodText xs → GoodText ys → GoodText (xs ++ ys)
good-text-append xs ys s t = (s.0 ++ t.0, spells-append xs ys s.0 t.0 s.1 t.1)

pub good-text-past : (c : ℕ) (rest : List ℕ) → GoodText (encode c ++ rest) → Good c × GoodText rest
good-text-past c rest (cs, s) =
    let k = cons_from_encodes cs rest c s.1 in
    let g : AllGood (c ∷ k.0) = subst AllGood k.1 s.0 in
    (g.0, (k.0, (g.1, k.2)))

-- a character that a text may not hold stands at the front
bad-front : (bs : List ℕ) (d : Decoded) → Front bs d → (Good d.code → ⊥) → GoodFront bs None
bad-front bs d f n c rest g same = n (subst Good (encode_same c d.code rest (drop d.len bs) (sym same ∙ f.bytes)).0 g)

-- what a test of the character at the front tells
pub good-front : (bs : List ℕ) (d : Decoded) (b : Bool) → Front bs d → Decides b (Good d.code) → GoodFront bs (then_some b d)
good-front bs d true f g = (g.0 refl, f)
good-front bs d false f g = bad-front bs d f (not_from_Decides false g refl)

pub good-scalars : (cs : List ℕ) → AllGood cs → scalars cs ≡ true
good-scalars [] g = refl
good-scalars (c ∷ cs) g = and_from (scalar c) (scalars cs) g.0.0 (good-scalars cs g.1)

pub good-text-utf8 : (bs : List ℕ) → GoodText bs → IsUtf8 bs
good-text-utf8 bs (cs, s) = (cs, (good-scalars cs s.0, s.1))

pub all-good-parts : (cs ds : List ℕ) → AllGood (cs ++ ds) → AllGood cs × AllGood ds
all-good-parts [] ds g = (tt, g)
all-good-parts (c ∷ cs) ds g = let k = all-good-parts cs ds g.1 in ((g.0, k.0), k.1)

-- a good text is cut where a character ends
pub good-text-cut : (bs : List ℕ) (i : ℕ) → GoodText bs → IsCharBoundary bs i → GoodText (take i bs) × GoodText (drop i bs)
good-text-cut bs i (cs, s) b =
    let u = good-text-utf8 bs (cs, s) in
    let x = IsUtf8-take bs i u b in
    let y = IsUtf8-drop bs i u b in
    let e : cs ≡ x.0 ++ y.0 = encodes_same cs (x.0 ++ y.0) (s.1 ∙ sym (take-append-drop i bs) ∙ sym (encodes-append x.0 y.0 ∙ (λ k. x.1.1 k ++ y.1.1 k))) in
    let g = all-good-parts x.0 y.0 (subst AllGood e s.0) in
    ((x.0, (g.0, x.1.1)), (y.0, (g.1, y.1.1)))
