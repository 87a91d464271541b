-- Bytes that are one character, and bytes that are not.
use Rattle.std.proofs.Common.{◌≡◌, ℕ, ◌*◌, ◌<◌, ◌≤◌, Bool, true, false, eqb, List, [], ◌++◌, length, get_or, drop, Some, None, Option, Decides, sym, ap, ◌∙◌, refl, subst, append-nil, mul-le-mul, arith}
use lib.Utf8.{encode}
use Rattle.page.specs.Rules.{OneCharacter}
use Rattle.std.proofs.lemmas.List.{drop_all}
use Rattle.std.proofs.lemmas.Bool.{eqb-false, eqb-true, false≢true}
use Rattle.std.proofs.lemmas.Str.{length-encode, len_utf8_bounds}
use Rattle.std.proofs.lemmas.Bool.Decides.{Decides-like}
use Rattle.std.specs.Option.{MatchOption}
use Rattle.text.proofs.Decodes.{front_same, plain-front}
use Rattle.text.specs.Characters.{Good}
use Rattle.text.specs.Decoding.{Decodes, Front, NoCharacter}
use Rattle.text.specs.declared.decode.Decoded.{Decoded}

-- the character found at the front is the one that the bytes are
one_same : (bs : List ℕ) (d : Decoded) → Front bs d → (o : OneCharacter bs) → (d.code ≡ o.0) × (drop d.len bs ≡ [])
one_same bs d f (c, g, e) = front_same bs [] c d f (sym e ∙ sym (append-nil (encode c)))

-- a character found that takes all bytes
one_found : (bs : List ℕ) (d : Decoded) (r : Bool) → Front bs d → d.len ≡ length bs → Decides r (Good d.code) → Decides r (OneCharacter bs)
one_found bs d r f e good =
    let rest : drop d.len bs ≡ [] = drop_all d.len bs (omega arith) in
    Decides-like r
    (λ g. (d.code, g, sym (f.bytes ∙ ap (λ x. encode d.code ++ x) rest ∙ append-nil (encode d.code))))
    (λ o. subst Good (sym (one_same bs d f o).0) o.1) good

-- a character found that takes fewer
one-longer : (bs : List ℕ) (d : Decoded) → Front bs d → (d.len ≡ length bs → ⊥) → Decides false (OneCharacter bs)
one-longer bs d f n = (
  (λ e. absurd (false≢true e)),
  λ o. absurd (n (f.len ∙ ap (λ c. length (encode c)) (one_same bs d f o).0 ∙ ap length o.2)),
)

-- no character found
one_none : (bs : List ℕ) → NoCharacter bs → Decides false (OneCharacter bs)
one_none bs n = ((λ e. absurd (false≢true e)), λ o. absurd (n o.0 [] o.1.0 (sym o.2 ∙ sym (append-nil (encode o.0)))))

-- a test of the character found, if there is one
pub one-decides : (bs : List ℕ) (found : Option Decoded) (r : Bool) → Decodes bs found → MatchOption found (r ≡ false) (λ d. (d.len ≡ length bs → Decides r (Good d.code)) × ((d.len ≡ length bs → ⊥) → r ≡ false)) → Decides r (OneCharacter bs)
one-decides bs None r n e = subst (λ x. Decides x (OneCharacter bs)) (sym e) (one_none bs n)
one-decides bs (Some d) r f t = by (eqb d.len (length bs)) refl
  where
    by : (b : Bool) → eqb d.len (length bs) ≡ b → Decides r (OneCharacter bs)
    by true e = let all = eqb-true d.len (length bs) e in one_found bs d r f all (t.0 all)
    by false e = let fewer = eqb-false d.len (length bs) e in subst (λ x. Decides x (OneCharacter bs)) (sym (t.1 fewer)) (one-longer bs d f fewer)

-- one byte below 128
pub one-plain : (bs : List ℕ) (c : ℕ) (r : Bool) → length bs ≡ 1 → c ≡ get_or bs 0 0 → c < 128 → Decides r (Good c) → Decides r (OneCharacter bs)
one-plain bs c r long e low good = one_found bs (record { code = c; len = 1 }) r (plain-front bs c (omega arith) e low) (sym long) good

one-short : (bs : List ℕ) → OneCharacter bs → length bs ≤ 4
one-short bs (c, g, e) = omega (arith, ap length e, length-encode c, len_utf8_bounds c)

-- a character so many times as a u16 can say
pub few_bytes : (bs : List ℕ) (n : ℕ) → OneCharacter bs → n ≤ 65535 → n * length bs ≤ 262140
few_bytes bs n o h = mul-le-mul {n₂ = 65535} h (one-short bs o)
