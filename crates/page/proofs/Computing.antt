-- The tests of texts decide what they test, and compute what is shown.
use Rattle.std.proofs.Common.{◌≡◌, ℕ, ◌<◌, ◌≤◌, Bool, true, false, cond, eqb, List, [], ◌∷◌, ◌++◌, length, take, drop, Some, None, Decides, Option, sym, refl, ap, ◌∙◌, subst, append_assoc, arith}
use lib.Utf8.{encode, encodes, low_scalar, scalar, scalars}
use Rattle.layout.specs.declared.measure.EscapeSequence.{EscapeSequence}
use Rattle.layout.specs.declared.measure.EscapeSequence.TheVariants.{Begun, Inside, Outside}
use Rattle.page.proofs.Spelt.{good-cut, styled-decodes}
use Rattle.page.specs.Computed.{same_characters, shown_by, shown_from, shows_as}
use Rattle.page.specs.Rules.{AtBoundary}
use Rattle.std.proofs.lemmas.Slice.Eq.{bytes_eq-Decides}
use Rattle.std.proofs.lemmas.Bool.{and_from, and_parts, cond-false, cond-true, eqb-true, false≢true, ne_eqb}
use Rattle.std.proofs.lemmas.Str.{chars-encodes, encode_ascii}
use Rattle.std.proofs.lemmas.Bool.Decides.{nat_tests}
use Rattle.std.specs.Option.{option_map}
use Rattle.std.specs.Str.{chars}
use Rattle.text.proofs.Spelling.{good-not-esc, good-text-utf8}
use Rattle.text.specs.Tests.{good_bytes, good_character, spelled_out}
pub use Rattle.text.proofs.Testing.{good-bytes, good-bytes-decides, good-character, good-characters, good-text, spells-decodes}
use Rattle.text.specs.Characters.{Good}
use Rattle.text.specs.Texts.{Styled, dyes, ends, is_plain, plain, shows, style}

-- digits and semicolons are ASCII, and spell themselves
plain-low : (c : ℕ) → is_plain c ≡ true → c < 128
plain-low c e = grind (arith, nat_tests)

plain_push : (ps : List ℕ) (c : ℕ) → plain ps ≡ true → is_plain c ≡ true → plain (ps ++ (c ∷ [])) ≡ true
plain_push [] c h e = and_from (is_plain c) true e refl
plain_push (p ∷ ps) c h e = let k = and_parts (is_plain p) (plain ps) h in and_from (is_plain p) (plain (ps ++ (c ∷ []))) k.0 (plain_push ps c k.1 e)

-- what is left of a styled text is one, behind what has come of a sequence
abbrev Ends : EscapeSequence → List ℕ → List ℕ → Type 0
Ends Outside bs cs = Styled bs cs
Ends Begun bs cs = Styled (27 ∷ bs) cs
Ends Inside bs cs = (ps : List ℕ) → plain ps ≡ true → Styled (27 ∷ 91 ∷ (ps ++ bs)) cs

none-some : {A : Type 0} {x : A} → None ≡ Some x → ⊥
none-some e = let z : ◌≡◌ {A = ℕ} 0 1 = cc in omega arith

some_same : {A : Type 0} {x y : A} → Some x ≡ Some y → x ≡ y
some_same e = cc

ascii-ends : (s : EscapeSequence) (c : ℕ) (ds cs : List ℕ) → c < 128 → Ends s (c ∷ encodes ds) cs → Ends s (encodes (c ∷ ds)) cs
ascii-ends s c ds cs l h = subst (λ x. Ends s (x ++ encodes ds) cs) (sym (encode_ascii c l)) h

-- a character in front of the rest
module _ (c : ℕ) (ds cs : List ℕ) (rest : (s : EscapeSequence) (es : List ℕ) → shown_from s ds ≡ Some es → Ends s (encodes ds) es) where
  outside-styled : shown_from Outside (c ∷ ds) ≡ Some cs → Ends Outside (encodes (c ∷ ds)) cs
  outside-styled e = by (eqb c 27) refl e
    where
      shown : Good c → (o : Option (List ℕ)) → ((es : List ℕ) → o ≡ Some es → Styled (encodes ds) es) → option_map (λ es. c ∷ es) o ≡ Some cs → Styled (encodes (c ∷ ds)) cs
      shown g None k f = absurd (none-some f)
      shown g (Some es) k f = subst (Styled (encodes (c ∷ ds))) (some_same f) (shows c g (k es refl))

      good : (t : Bool) → good_character c ≡ t → cond t (option_map (λ es. c ∷ es) (shown_from Outside ds)) None ≡ Some cs → Styled (encodes (c ∷ ds)) cs
      good true g f = shown ((good-character c).0 g) (shown_from Outside ds) (rest Outside) f
      good false g f = absurd (none-some f)

      by : (t : Bool) → eqb c 27 ≡ t → cond t (shown_from Begun ds) (cond (good_character c) (option_map (λ es. c ∷ es) (shown_from Outside ds)) None) ≡ Some cs → Styled (encodes (c ∷ ds)) cs
      by true g f =
          let is : c ≡ 27 = eqb-true c 27 g in
          ascii-ends Outside c ds cs (omega arith) (subst (λ x. Styled (x ∷ encodes ds) cs) (sym is) (rest Begun cs f))
      by false g f = good (good_character c) refl f

  begun-styled : shown_from Begun (c ∷ ds) ≡ Some cs → Ends Begun (encodes (c ∷ ds)) cs
  begun-styled e = by (eqb c 91) refl e
    where
      by : (t : Bool) → eqb c 91 ≡ t → cond t (shown_from Inside ds) None ≡ Some cs → Ends Begun (encodes (c ∷ ds)) cs
      by true g f =
          let is : c ≡ 91 = eqb-true c 91 g in
          ascii-ends Begun c ds cs (omega arith) (subst (λ x. Styled (27 ∷ x ∷ encodes ds) cs) (sym is) (rest Inside cs f [] refl))
      by false g f = absurd (none-some f)

  inside-styled : shown_from Inside (c ∷ ds) ≡ Some cs → Ends Inside (encodes (c ∷ ds)) cs
  inside-styled e = by (is_plain c) refl e
    where
      last : (t : Bool) → eqb c 109 ≡ t → cond t (shown_from Outside ds) None ≡ Some cs → Ends Inside (encodes (c ∷ ds)) cs
      last true g f =
          let is : c ≡ 109 = eqb-true c 109 g in
          ascii-ends Inside c ds cs (omega arith) (subst (λ x. Ends Inside (x ∷ encodes ds) cs) (sym is)
          (λ ps h. subst (λ x. Styled (27 ∷ 91 ∷ x) cs) (append_assoc ps (109 ∷ []) (encodes ds)) (dyes ps h (rest Outside cs f))))
      last false g f = absurd (none-some f)

      by : (t : Bool) → is_plain c ≡ t → cond t (shown_from Inside ds) (cond (eqb c 109) (shown_from Outside ds) None) ≡ Some cs → Ends Inside (encodes (c ∷ ds)) cs
      by true g f =
          ascii-ends Inside c ds cs (plain-low c g)
          (λ ps h. subst (λ x. Styled (27 ∷ 91 ∷ x) cs) (append_assoc ps (c ∷ []) (encodes ds)) (rest Inside cs f (ps ++ (c ∷ [])) (plain_push ps c h g)))
      by false g f = last (eqb c 109) refl f

shown-styled : (s : EscapeSequence) (ds cs : List ℕ) → shown_from s ds ≡ Some cs → Ends s (encodes ds) cs
shown-styled Outside [] cs e = subst (Styled []) (some_same e) ends
shown-styled Outside (c ∷ ds) cs e = outside-styled c ds cs (λ s es. shown-styled s ds es) e
shown-styled Begun [] cs e = absurd (none-some e)
shown-styled Begun (c ∷ ds) cs e = begun-styled c ds cs (λ s es. shown-styled s ds es) e
shown-styled Inside [] cs e = absurd (none-some e)
shown-styled Inside (c ∷ ds) cs e = inside-styled c ds cs (λ s es. shown-styled s ds es) e

pub styled-text : (bs cs : List ℕ) → shown_by bs ≡ Some cs → Styled bs cs
unfolding shown_by
styled-text bs cs e = by (spelled_out bs) refl e
  where
    by : (t : Bool) → spelled_out bs ≡ t → cond t (shown_from Outside (chars bs)) None ≡ Some cs → Styled bs cs
    by true g f = subst (λ x. Styled x cs) ((bytes_eq-Decides (encodes (chars bs)) bs).0 g) (shown-styled Outside (chars bs) cs f)
    by false g f = absurd (none-some f)

-- the characters of a styled text, and that they show what it shows
record Walked (bs cs : List ℕ) : Type 0 where
  pub characters : List ℕ
  pub valid : scalars characters ≡ true
  pub bytes : encodes characters ≡ bs
  pub shown : shown_from Outside characters ≡ Some cs

-- the walk over the rest of a style sequence
plain_walk : (ps ds : List ℕ) → plain ps ≡ true → scalars ds ≡ true → (scalars (ps ++ (109 ∷ ds)) ≡ true) × (encodes (ps ++ (109 ∷ ds)) ≡ (ps ++ (109 ∷ [])) ++ encodes ds) × (shown_from Inside (ps ++ (109 ∷ ds)) ≡ shown_from Outside ds)
plain_walk [] ds h v = (v, ap (λ x. x ++ encodes ds) (encode_ascii 109 (omega arith)), refl)
plain_walk (p ∷ ps) ds h v =
    let k = and_parts (is_plain p) (plain ps) h in
    let l = plain-low p k.0 in
    let r = plain_walk ps ds k.1 v in (
      and_from (scalar p) (scalars (ps ++ (109 ∷ ds))) (low_scalar p (omega arith)) r.0,
      ap (λ x. x ++ encodes (ps ++ (109 ∷ ds))) (encode_ascii p l) ∙ ap (λ x. p ∷ x) r.1,
      cond-true (is_plain p) (shown_from Inside (ps ++ (109 ∷ ds))) (cond (eqb p 109) (shown_from Outside (ps ++ (109 ∷ ds))) None) k.0 ∙ r.2,
    )

walked : {bs cs : List ℕ} → Styled bs cs → Walked bs cs
walked ends = record { characters = []; valid = refl; bytes = refl; shown = refl }
walked (shows c {bs} {cs} g s) =
    let k = walked s in record {
      characters = c ∷ k.characters;
      valid = and_from (scalar c) (scalars k.characters) g.0 k.valid;
      bytes = ap (λ x. encode c ++ x) k.bytes;
      shown = cond-false (eqb c 27) (shown_from Begun k.characters) (cond (good_character c) (option_map (λ es. c ∷ es) (shown_from Outside k.characters)) None) (ne_eqb c 27 (good-not-esc c g))
          ∙ cond-true (good_character c) (option_map (λ es. c ∷ es) (shown_from Outside k.characters)) None ((good-character c).1 g)
          ∙ ap (option_map (λ es. c ∷ es)) k.shown;
    }
walked (dyes ps {bs} {cs} h s) =
    let k = walked s in
    let r = plain_walk ps k.characters h k.valid in record {
      characters = 27 ∷ 91 ∷ (ps ++ (109 ∷ k.characters));
      valid = r.0;
      bytes = (λ i. encode_ascii 27 (omega arith) i ++ (encode_ascii 91 (omega arith) i ++ (r.1 i))) ∙ ap (λ x. style ps ++ x) k.bytes;
      shown = r.2 ∙ k.shown;
    }

pub shown_by_lem : (bs cs : List ℕ) → Styled bs cs → shown_by bs ≡ Some cs
unfolding shown_by
shown_by_lem bs cs s =
    let k = walked s in
    let is : chars bs ≡ k.characters = ap chars (sym k.bytes) ∙ chars-encodes k.characters k.valid in
    cond-true (spelled_out bs) (shown_from Outside (chars bs)) None ((bytes_eq-Decides (encodes (chars bs)) bs).1 (ap encodes is ∙ k.bytes))
    ∙ ap (shown_from Outside) is ∙ k.shown

-- a place in a good text is one where its front is a good text
pub good-boundary : (l : List ℕ) (q : ℕ) → good_bytes (take q l) ≡ true → q ≤ length l → AtBoundary l q
good-boundary l q h le = (le, good-text-utf8 (take q l) (good-text (take q l) h))

pub good-front : (l : List ℕ) (q : ℕ) → good_bytes l ≡ true → AtBoundary l q → good_bytes (take q l) ≡ true
good-front l q h b = good-bytes (take q l) (good-cut l q (good-text l h) b).0

pub shows-as-decides : (bs cs : List ℕ) → Decides (shows_as bs cs) (Styled bs cs)
unfolding shows_as
shows-as-decides bs cs = ((λ e. styled-text bs cs (shown (shown_by bs) e)), λ s. subst (λ o. same_characters o cs ≡ true) (sym (shown_by_lem bs cs s)) ((bytes_eq-Decides cs cs).1 refl))
  where
    shown : (o : Option (List ℕ)) → same_characters o cs ≡ true → o ≡ Some cs
    shown None e = absurd (false≢true e)
    shown (Some ds) e = ap Some ((bytes_eq-Decides ds cs).0 e)
