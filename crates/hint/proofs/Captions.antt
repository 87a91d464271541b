-- Captions of a script, and which go on from a line. Assumes nothing.
use Rattle.std.proofs.Common.{◌≡◌, ℕ, Bool, true, false, cond, ◌&&◌, eqb, ltb, leb, ◌<◌, List, [], ◌∷◌, length, take, drop, Some, None, Ok, Err, is_ok, Decides, Option, Result, Bor, IfSome, sym, refl, subst, arith, length-drop}
use Rattle.std.proofs.lemmas.Slice.Eq.{bytes_eq-Decides}
use Rattle.std.proofs.lemmas.Bool.{false≢true, leb-true}
use Rattle.std.proofs.lemmas.Bool.Decides.{Decides-and, Decides-like, Decides-ltb}
use Rattle.std.specs.Option.{option_map}
use Rattle.std.specs.Str.{IsCharBoundary, bytes_eq}
use Rattle.std.proofs.lemmas.Str.{IsCharBoundary-from_drop}
use Rattle.text.specs.Checks.{ChecksText}
use Rattle.text.specs.Texts.{GoodText}
use Rattle.text.specs.declared.refusal.Refusal.{Refusal}
use Rattle.text.proofs.Spelling.{good-text-utf8, good-text-cut}
use Rattle.text.specs.Tests.{good_bytes}
use Rattle.text.proofs.Testing.{good-bytes-decides}
use Rattle.hint.specs.Scripts.{captions_of, Continues, goes_on, first_continuing, rest_behind, script_hint}
use Rattle.hint.specs.Hints.{GoodHint}

pub goes-on-decides : (line caption : List ℕ) → Decides (goes_on line caption) (Continues line caption)
goes-on-decides line caption =
    Decides-like (goes_on line caption) (λ h. record { good = h.0.0; begins = h.0.1; longer = h.1.0; rest = h.1.1 }) (λ c. ((c.good, c.begins), (c.longer, c.rest))) (Decides-and (good_bytes caption && bytes_eq (take (length line) caption) line) (ltb (length line) (length caption) && good_bytes (drop (length line) caption)) (Decides-and (good_bytes caption) (bytes_eq (take (length line) caption) line) (good-bytes-decides caption) (bytes_eq-Decides (take (length line) caption) line)) (Decides-and (ltb (length line) (length caption)) (good_bytes (drop (length line) caption)) (Decides-ltb (length line) (length caption)) (good-bytes-decides (drop (length line) caption))))

-- a good caption that begins with a line goes on from it where a character ends there, and only there
pub continues-from : (line caption : List ℕ) → take (length line) caption ≡ line → length line < length caption → IsCharBoundary caption (length line) → GoodText caption → Continues line caption
continues-from line caption e l b g = record { good = g; begins = e; longer = l; rest = (good-text-cut caption (length line) g b).1 }

pub continues-boundary : {line caption : List ℕ} → Continues line caption → IsCharBoundary caption (length line)
continues-boundary {line} {caption} c =
    IsCharBoundary-from_drop caption (length line) (omega (arith, c.longer)) (good-text-utf8 (drop (length line) caption) c.rest)

-- a check of a text decides whether it is good
pub checks-decides : (bs : List ℕ) (r : Result (Unit {0}) Refusal) → ChecksText bs r → Decides (is_ok r) (GoodText bs)
checks-decides bs (Ok _) h = ((λ _. h), (λ _. refl))
checks-decides bs (Err e) h = ((λ t. absurd (false≢true t)), (λ g. absurd (h.1 g)))

-- what is answered for a caption that does not go on from a line
pub refuses : (line caption : List ℕ) → (Continues line caption → ⊥) → Decides false (Continues line caption)
refuses line caption n = ((λ e. absurd (false≢true e)), (λ k. absurd (n k)))

-- the first caption that goes on from a line does so
pub first-continues : (line : List ℕ) (cs : List (List ℕ)) (c : List ℕ) → first_continuing line cs ≡ Some c → Continues line c
first-continues line [] c e = absurd (let z : ◌≡◌ {A = ℕ} 0 1 = cc in omega arith)
first-continues line (d ∷ cs) c e = by (goes_on line d) refl (first-continues line cs c) e
  where
    by : (t : Bool) → goes_on line d ≡ t → (first_continuing line cs ≡ Some c → Continues line c) → cond t (Some d) (first_continuing line cs) ≡ Some c → Continues line c
    by true p later q = let same : d ≡ c = cc in subst (Continues line) same ((goes-on-decides line d).0 p)
    by false p later q = later q

-- what a script has for a line is a hint
pub script-good : (script line : List ℕ) (pos : ℕ) (hint : List ℕ) → script_hint script line pos ≡ Some hint → GoodHint hint
script-good script line pos hint e = at (ltb 0 (length line) && eqb pos (length line)) e
  where
    rest : (c : List ℕ) → Continues line c → (t : Bool) → leb (length (drop (length line) c)) 1024 ≡ t → cond t (Some (drop (length line) c)) None ≡ Some hint → GoodHint hint
    rest c k true p q =
        let same : drop (length line) c ≡ hint = cc in
        let long = length-drop (length line) c in
        subst GoodHint same (record { text = k.rest; some = omega (arith, k.longer); short = leb-true (length (drop (length line) c)) 1024 p })
    rest c k false p q = absurd (let z : ◌≡◌ {A = ℕ} 0 1 = cc in omega arith)

    by : (o : Option (List ℕ)) → first_continuing line (captions_of script) ≡ o → rest_behind line o ≡ Some hint → GoodHint hint
    by None p q = absurd (let z : ◌≡◌ {A = ℕ} 0 1 = cc in omega arith)
    by (Some c) p q = rest c (first-continues line (captions_of script) c p) (leb (length (drop (length line) c)) 1024) refl q

    at : (t : Bool) → cond t (rest_behind line (first_continuing line (captions_of script))) None ≡ Some hint → GoodHint hint
    at true q = by (first_continuing line (captions_of script)) refl q
    at false q = absurd (let z : ◌≡◌ {A = ℕ} 0 1 = cc in omega arith)

pub script-goods : (script line : List ℕ) (pos : ℕ) (r : Option (Bor (List ℕ))) → option_map (λ x. x.now) r ≡ script_hint script line pos → IfSome r (λ hint. GoodHint hint.now)
script-goods script line pos None e = tt
script-goods script line pos (Some hint) e = script-good script line pos hint.now (sym e)
