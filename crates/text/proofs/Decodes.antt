-- Bytes that spell a character, and bytes that spell none. Assumes nothing.
use Rattle.std.proofs.Common.{◌≡◌, ℕ, suc, ◌+◌, ◌-◌, ◌*◌, ◌/◌, ◌<◌, ◌≤◌, true, List, [], ◌∷◌, ◌++◌, length, get_or, take, drop, Some, None, Option, sym, ap, ◌∙◌, subst, ⊎_elim, arith, length-append, length-drop, take-append-drop, length-take-le, drop-cons}
use lib.Utf8.{next, encode, scalar, low_scalar}
use Rattle.std.proofs.lemmas.Str.{encode_same, length-encode, len_utf8_bounds}
use Rattle.std.proofs.str.Digits.{high_scalar}
use Rattle.std.proofs.str.Faults.{no_char}
use Rattle.std.proofs.str.Laws.{one, two, three, four}
use Rattle.text.specs.Continuations.{Continues, Spelled}
use Rattle.text.specs.Decoding.{NoCharacter, Front, Decodes, Follows, Within}
use Rattle.text.specs.declared.decode.Decoded.{Decoded}

-- what a call answers that looks at an index
abbrev pub Answers : List ℕ → ℕ → Option Decoded → Type 0
Answers bs at r = Decodes (drop at bs) r × Within at (length bs) r

-- the first n bytes are a character's
front : (xs : List ℕ) (c n : ℕ) → scalar c ≡ true → take n xs ≡ encode c → n ≤ length xs → Front xs (record { code = c; len = n })
front xs c n s e le = record {
  valid = s;
  bytes = sym (take-append-drop n xs) ∙ ap (λ l. l ++ drop n xs) e;
  len = sym (length-take-le n xs le) ∙ ap length e;
}

module _ (bs : List ℕ) (at : ℕ) where
  -- the byte k places on, and what follows it
  step : (k : ℕ) → at + k < length bs → drop (at + k) bs ≡ get_or bs (at + k) 0 ∷ drop (at + (k + 1)) bs
  step k h = let e : suc (at + k) ≡ at + (k + 1) = omega arith in drop-cons bs (at + k) 0 h ∙ ap (λ n. get_or bs (at + k) 0 ∷ drop n bs) e

  first : at < length bs → drop at bs ≡ get_or bs at 0 ∷ drop (at + 1) bs
  first h = let e : suc at ≡ at + 1 = omega arith in drop-cons bs at 0 h ∙ ap (λ n. get_or bs at 0 ∷ drop n bs) e

  -- a lead byte that lacks what has to follow it, and a byte that only continues a character
  pub answers-alone : 128 ≤ get_or bs at 0 → get_or bs at 0 < 192 → Answers bs at None
  answers-alone h l = (no_char bs at (λ w. omega (arith, w.second (omega arith))), tt)

  pub lacks-second : 128 ≤ get_or bs at 0 → (at + 1 < length bs → Follows (get_or bs (at + 1) 0) → ⊥) → Answers bs at None
  lacks-second h n = (no_char bs at (λ w. let i = w.second h in n (omega (arith, i.1)) i.2), tt)

  pub lacks-third : 224 ≤ get_or bs at 0 → (at + 2 < length bs → Follows (get_or bs (at + 2) 0) → ⊥) → Answers bs at None
  lacks-third h n = (no_char bs at (λ w. let i = w.third h in n (omega (arith, i.0)) i.1), tt)

  pub lacks-fourth : 240 ≤ get_or bs at 0 → (at + 3 < length bs → Follows (get_or bs (at + 3) 0) → ⊥) → Answers bs at None
  lacks-fourth h n = (no_char bs at (λ w. let i = w.fourth h in n (omega (arith, i.0)) i.1), tt)

  -- a number that the n bytes spell, if no fewer bytes would do
  spelled : (c least n : ℕ) → (1 ≤ n) × (n ≤ 4) × (at + n ≤ length bs) → (least ≤ c → take n (drop at bs) ≡ encode c) → ((least ≤ c → scalar c ≡ true → ⊥) → NoCharacter (drop at bs)) → (r : Option Decoded) → Spelled c least n r → Answers bs at r
  spelled c least n w e none None s = (none s, tt)
  spelled c least n w e none (Some d) s =
      let same : d ≡ record { code = c; len = n } = λ i. record { code = s.2 i; len = s.3 i } in
      subst (λ d. Answers bs at (Some d)) (sym same) (front (drop at bs) c n s.1 (e s.0) (omega (arith, length-drop at bs)), w)

  pub answers-two : (192 ≤ get_or bs at 0) × (get_or bs at 0 < 224) → (u : ℕ) → Continues bs (at + 1) (Some u) → (r : Option Decoded) → Spelled ((get_or bs at 0 - 192) * 64 + u) 128 2 r → Answers bs at r
  answers-two h u f =
      let x = get_or bs at 0 in
      let y = get_or bs (at + 1) 0 in
      let c = (x - 192) * 64 + u in
      let p : x ≡ 192 + c / 64 = omega arith in
      let q : y ≡ next c = omega arith in
      spelled c 128 2 (omega arith, omega arith, omega arith)
      (λ lo. ap (take 2) (first (omega arith) ∙ ap (λ t. x ∷ t) (step 1 f.0)) ∙ (λ k. p k ∷ q k ∷ []) ∙ sym (two c lo (omega arith)))
      (λ none. no_char bs at (λ w. none (omega (arith, w.second (omega arith))) (low_scalar c (omega arith))))

  pub answers-three : (224 ≤ get_or bs at 0) × (get_or bs at 0 < 240) → (u v : ℕ) → Continues bs (at + 1) (Some u) → Continues bs (at + 2) (Some v) → (r : Option Decoded) → Spelled (((get_or bs at 0 - 224) * 64 + u) * 64 + v) 2048 3 r → Answers bs at r
  answers-three h u v f g =
      let x = get_or bs at 0 in
      let y = get_or bs (at + 1) 0 in
      let z = get_or bs (at + 2) 0 in
      let c = ((x - 224) * 64 + u) * 64 + v in
      let p : x ≡ 224 + c / 4096 = omega arith in
      let m : c / 64 ≡ (x - 224) * 64 + u = omega arith in
      let q : y ≡ next (c / 64) = subst (λ n. y ≡ next n) (sym m) (omega arith) in
      let r : z ≡ next c = omega arith in
      spelled c 2048 3 (omega arith, omega arith, omega arith)
      (λ lo. ap (take 3) (first (omega arith) ∙ ap (λ t. x ∷ t) (step 1 f.0 ∙ ap (λ t. y ∷ t) (step 2 g.0))) ∙ (λ k. p k ∷ q k ∷ r k ∷ []) ∙ sym (three c lo (omega arith)))
      (λ none. no_char bs at (λ w. let i = w.in_three h.0 h.1 in none (omega (arith, i.0)) (⊎_elim (λ l. low_scalar c (omega arith)) (λ l. high_scalar c (omega arith) (omega arith) (omega arith)) i.1)))

  pub answers-four : 240 ≤ get_or bs at 0 → (u v w : ℕ) → Continues bs (at + 1) (Some u) → Continues bs (at + 2) (Some v) → Continues bs (at + 3) (Some w) → (r : Option Decoded) → Spelled ((((get_or bs at 0 - 240) * 64 + u) * 64 + v) * 64 + w) 65536 4 r → Answers bs at r
  answers-four h u v w f g j =
      let x = get_or bs at 0 in
      let y = get_or bs (at + 1) 0 in
      let z = get_or bs (at + 2) 0 in
      let a = get_or bs (at + 3) 0 in
      let c = (((x - 240) * 64 + u) * 64 + v) * 64 + w in
      let p : x ≡ 240 + c / 262144 = omega arith in
      let l : c / 4096 ≡ (x - 240) * 64 + u = omega arith in
      let q : y ≡ next (c / 4096) = subst (λ n. y ≡ next n) (sym l) (omega arith) in
      let m : c / 64 ≡ ((x - 240) * 64 + u) * 64 + v = omega arith in
      let r : z ≡ next (c / 64) = subst (λ n. z ≡ next n) (sym m) (omega arith) in
      let t : a ≡ next c = omega arith in
      spelled c 65536 4 (omega arith, omega arith, omega arith)
      (λ lo. ap (take 4) (first (omega arith) ∙ ap (λ t. x ∷ t) (step 1 f.0 ∙ ap (λ t. y ∷ t) (step 2 g.0 ∙ ap (λ t. z ∷ t) (step 3 j.0)))) ∙ (λ k. p k ∷ q k ∷ r k ∷ t k ∷ []) ∙ sym (four c lo))
      (λ none. no_char bs at (λ k. let i = (k.fourth h).2 in none (omega (arith, i.0)) (high_scalar c (omega (arith, i.0)) (omega (arith, i.0)) (omega (arith, i.1)))))

-- the character that stands at the front is the one that is found there
pub front_same : (bs rest : List ℕ) (c : ℕ) (d : Decoded) → Front bs d → bs ≡ encode c ++ rest → (d.code ≡ c) × (drop d.len bs ≡ rest)
front_same bs rest c d f e = encode_same d.code c (drop d.len bs) rest (sym f.bytes ∙ e)

-- a byte below 128 is a character by itself
pub plain-front : (bs : List ℕ) (c : ℕ) → 1 ≤ length bs → c ≡ get_or bs 0 0 → c < 128 → Front bs (record { code = c; len = 1 })
plain-front [] c h e l = absurd (omega arith)
plain-front (b ∷ bs) c h e l =
    subst (λ x. Front (x ∷ bs) (record { code = c; len = 1 })) e (record { valid = low_scalar c (omega arith); bytes = ap (λ cs. cs ++ bs) (sym (one c l)); len = ap length (sym (one c l)) })

-- no character stands at the front of no bytes
pub no-lead : (bs : List ℕ) → length bs ≡ 0 → NoCharacter bs
no-lead bs h c rest s e = omega (arith, ap length e, length-append (encode c) rest, length-encode c, len_utf8_bounds c)

-- a character that is found within some bytes ends within them
pub char-within : (bs : List ℕ) (i : ℕ) (r : Option Decoded) → i ≤ length bs → Decodes (drop i bs) r → Within i (length bs) r
char-within bs i None h d = tt
char-within bs i (Some d) h f =
    let one = len_utf8_bounds d.code in
    let long = length-encode d.code in
    (omega (arith, f.len), omega (arith, f.len), omega (arith, f.len, ap length f.bytes, length-append (encode d.code) (drop d.len (drop i bs)), length-drop i bs))
