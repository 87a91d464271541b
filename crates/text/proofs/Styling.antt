-- Good styled texts: what each shows, put together and taken apart. Assumes nothing.
use Rattle.std.proofs.Common.{◌≡◌, ℕ, ◌≤◌, true, false, List, [], ◌∷◌, ◌++◌, length, sym, refl, ap, ◌∙◌, subst, true≢false, append_assoc, arith, length-append}
use lib.Utf8.{encode, encodes}
use Rattle.std.proofs.lemmas.Bool.{and_parts}
use Rattle.std.proofs.lemmas.Str.{encode_same, char_from_byte}
use Rattle.text.specs.Characters.{Good, AllGood}
use Rattle.text.specs.Texts.{Spells, is_plain, plain, style, Styled, ends, shows, dyes}
use Rattle.text.proofs.Spelling.{encode-some, good-not-esc}

-- a text that begins with a good character, and one that begins with a style sequence
pub record Character (bs cs : List ℕ) : Type 0 where
  pub code : ℕ
  pub rest : List ℕ
  pub others : List ℕ
  pub good : Good code
  pub bytes : bs ≡ encode code ++ rest
  pub shown : cs ≡ code ∷ others
  pub styled : Styled rest others

pub record Style (bs cs : List ℕ) : Type 0 where
  pub parameters : List ℕ
  pub rest : List ℕ
  pub plainly : plain parameters ≡ true
  pub bytes : bs ≡ style parameters ++ rest
  pub styled : Styled rest cs

pub data Begins (bs cs : List ℕ) : Type 0 where
  nowhere : bs ≡ [] → cs ≡ [] → Begins bs cs
  character : Character bs cs → Begins bs cs
  sequence : Style bs cs → Begins bs cs

pub styled-begins : {bs cs : List ℕ} → Styled bs cs → Begins bs cs
styled-begins ends = nowhere refl refl
styled-begins (shows c g s) = character (record { code = c; rest = _; others = _; good = g; bytes = refl; shown = refl; styled = s })
styled-begins (dyes ps h s) = sequence (record { parameters = ps; rest = _; plainly = h; bytes = refl; styled = s })

pub styled-good : {bs cs : List ℕ} → Styled bs cs → AllGood cs
styled-good ends = tt
styled-good (shows c g s) = (g, styled-good s)
styled-good (dyes ps h s) = styled-good s

pub styled-append : {xs ys cs ds : List ℕ} → Styled xs cs → Styled ys ds → Styled (xs ++ ys) (cs ++ ds)
styled-append ends t = t
styled-append (shows c g s) t = rw append_assoc (shows c g (styled-append s t))
styled-append (dyes ps h s) t = rw append_assoc (dyes ps h (styled-append s t))

pub spells-styled : (bs cs : List ℕ) → Spells bs cs → Styled bs cs
spells-styled bs [] s = subst (λ l. Styled l []) s.1 ends
spells-styled bs (c ∷ cs) s = subst (λ l. Styled l (c ∷ cs)) s.1 (shows c s.0.0 (spells-styled (encodes cs) cs (s.0.1, refl)))

-- what can follow a run of digits and semicolons: nothing, or another byte
abbrev pub Stops : List ℕ → Type 0
Stops [] = Unit {0}
Stops (x ∷ xs) = is_plain x ≡ false

pub run-same : (ps qs xs ys : List ℕ) → plain ps ≡ true → plain qs ≡ true → Stops xs → Stops ys → ps ++ xs ≡ qs ++ ys → (ps ≡ qs) × (xs ≡ ys)
run-same [] [] xs ys g h s t e = (refl, e)
run-same [] (q ∷ qs) xs ys g h s t e = absurd (true≢false (sym (and_parts (is_plain q) (plain qs) h).0 ∙ subst Stops e s))
run-same (p ∷ ps) [] xs ys g h s t e = absurd (true≢false (sym (and_parts (is_plain p) (plain ps) g).0 ∙ subst Stops (sym e) t))
run-same (p ∷ ps) (q ∷ qs) xs ys g h s t e =
    let k : p ≡ q = cc in
    let f : ps ++ xs ≡ qs ++ ys = cc in
    let r = run-same ps qs xs ys (and_parts (is_plain p) (plain ps) g).1 (and_parts (is_plain q) (plain qs) h).1 s t f in
    ((λ i. k i ∷ r.0 i), r.1)

pub style-same : (ps qs xs ys : List ℕ) → plain ps ≡ true → plain qs ≡ true → style ps ++ xs ≡ style qs ++ ys → (ps ≡ qs) × (xs ≡ ys)
style-same ps qs xs ys g h e =
    let t : (ps ++ (109 ∷ [])) ++ xs ≡ (qs ++ (109 ∷ [])) ++ ys = cc in
    let r = run-same ps qs (109 ∷ xs) (109 ∷ ys) g h refl refl (sym (append_assoc ps (109 ∷ []) xs) ∙ t ∙ append_assoc qs (109 ∷ []) ys) in
    (r.0, let k = r.1 in cc)

-- no character but ESC begins as a style sequence does
style-char : (ps : List ℕ) (c : ℕ) (xs ys : List ℕ) → style ps ++ xs ≡ encode c ++ ys → c ≡ 27
style-char ps c xs ys e = char_from_byte (style ps ++ xs) ys c e (omega arith) (omega arith)

pub styled-char : {bs cs : List ℕ} → Styled bs cs → (c : ℕ) (rest : List ℕ) → bs ≡ encode c ++ rest → (c ≡ 27 → ⊥) → Good c × ((es : List ℕ) × (cs ≡ c ∷ es) × Styled rest es)
styled-char {bs} {cs} s c rest e n = by (styled-begins s)
  where
    by : Begins bs cs → Good c × ((es : List ℕ) × (cs ≡ c ∷ es) × Styled rest es)
    by (nowhere p q) = absurd (omega (arith, encode-some c rest, ap length (sym e ∙ p)))
    by (character k) =
        let same = encode_same k.code c k.rest rest (sym k.bytes ∙ e) in
        (subst Good same.0 k.good, (k.others, k.shown ∙ ap (λ d. d ∷ k.others) same.0, subst (λ l. Styled l k.others) same.1 k.styled))
    by (sequence k) = absurd (n (style-char k.parameters c k.rest rest (sym k.bytes ∙ e)))

pub styled-style : {bs cs : List ℕ} → Styled bs cs → (ps rest : List ℕ) → plain ps ≡ true → bs ≡ style ps ++ rest → Styled rest cs
styled-style {bs} {cs} s ps rest h e = by (styled-begins s)
  where
    by : Begins bs cs → Styled rest cs
    by (nowhere p q) = let z : style ps ++ rest ≡ [] = sym e ∙ p in absurd (omega (arith, ap length z))
    by (character k) = absurd (good-not-esc k.code k.good (style-char ps k.code rest k.rest (sym e ∙ k.bytes)))
    by (sequence k) = subst (λ l. Styled l cs) (style-same k.parameters ps k.rest rest k.plainly h (sym k.bytes ∙ e)).1 k.styled

styled-nil : {bs cs : List ℕ} → Styled bs cs → bs ≡ [] → cs ≡ []
styled-nil {bs} {cs} s e = by (styled-begins s)
  where
    by : Begins bs cs → cs ≡ []
    by (nowhere p q) = q
    by (character k) = absurd (omega (arith, encode-some k.code k.rest, ap length (sym k.bytes ∙ e)))
    by (sequence k) = let z : style k.parameters ++ k.rest ≡ [] = sym k.bytes ∙ e in absurd (omega (arith, ap length z))

-- a styled text shows one list of characters
pub styled-same : {bs cs ds : List ℕ} → Styled bs cs → Styled bs ds → cs ≡ ds
styled-same ends t = sym (styled-nil t refl)
styled-same (shows c {bs = bs} {cs = cs} g s) t =
    let k = (styled-char t c bs refl (good-not-esc c g)).1 in
    ap (λ l. c ∷ l) (styled-same s k.2) ∙ sym k.1
styled-same (dyes ps {bs = bs} h s) t = styled-same s (styled-style t ps bs h refl)

-- what a styled text shows is no longer than the text
pub styled-longer : {bs cs : List ℕ} → Styled bs cs → length (encodes cs) ≤ length bs
styled-longer ends = omega arith
styled-longer (shows c {bs = bs} {cs = cs} g s) = omega (arith, styled-longer s, length-append (encode c) bs, length-append (encode c) (encodes cs))
styled-longer (dyes ps {bs = bs} h s) = omega (arith, styled-longer s, length-append (style ps) bs)
