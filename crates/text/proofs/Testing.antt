-- The tests of texts decide what they test. Assumes nothing.
use Rattle.std.proofs.Common.{◌≡◌, ℕ, ◌<◌, Bool, true, false, not, ◌&&◌, ◌||◌, eqb, List, [], ◌∷◌, length, All, IsUtf8, MatchBool, Decides, refl, subst}
use lib.Utf8.{encodes, scalar}
use Rattle.std.proofs.lemmas.Bool.{false≢true, not_from_false, not-true}
use Rattle.std.proofs.lemmas.Bool.Decides.{Decides-and, Decides-eqb, Decides-like, Decides-or}
use Rattle.std.proofs.lemmas.Iterator.Search.{true_from_All}
use Rattle.std.proofs.lemmas.List.Elements.{All-cons, All-from_all_within, All-head, All-nil, All-tail}
use Rattle.std.proofs.lemmas.Slice.Eq.{bytes_eq-Decides}
use Rattle.std.proofs.lemmas.Str.{chars_from_encodes, encodes-chars}
use Rattle.std.specs.List.{AllWithin, HoldsAt}
use Rattle.std.specs.Str.{chars}
use Rattle.text.proofs.Spelling.{good-text-utf8}
use Rattle.text.specs.Characters.{AllGood, Good, is_control}
use Rattle.text.specs.Tests.{good_bytes, good_character, good_characters, spelled_out}
use Rattle.text.specs.Texts.{GoodText, Spells}

pub good-character : (c : ℕ) → Decides (good_character c) (Good c)
good-character c =
    Decides-and (scalar c) (eqb c 10 || not (is_control c)) ((λ e. e), (λ e. e))
    (Decides-or (eqb c 10) (not (is_control c)) (Decides-eqb c 10) (not-true (is_control c), not_from_false (is_control c)))

pub good-characters : (cs : List ℕ) → Decides (good_characters cs) (AllGood cs)
good-characters [] = ((λ _. tt), (λ _. refl))
good-characters (c ∷ cs) = Decides-and (good_character c) (good_characters cs) (good-character c) (good-characters cs)

-- a good text is spelled by its characters
pub spells-decodes : (bs : List ℕ) → GoodText bs → Spells bs (chars bs)
spells-decodes bs g =
    let u = good-text-utf8 bs g in
    (subst AllGood (chars_from_encodes g.0 bs u g.1.1) g.1.0, encodes-chars bs u)

pub good-bytes-decides : (bs : List ℕ) → Decides (good_bytes bs) (GoodText bs)
unfolding good_bytes
good-bytes-decides bs =
    Decides-like (good_characters (chars bs) && spelled_out bs) (λ h. (chars bs, h)) (spells-decodes bs)
    (Decides-and (good_characters (chars bs)) (spelled_out bs) (good-characters (chars bs)) (bytes_eq-Decides (encodes (chars bs)) bs))

pub good-text : (bs : List ℕ) → good_bytes bs ≡ true → GoodText bs
good-text bs = (good-bytes-decides bs).0

pub good-bytes : (bs : List ℕ) → GoodText bs → good_bytes bs ≡ true
good-bytes bs = (good-bytes-decides bs).1

all-good : (cs : List ℕ) → All Good cs → AllGood cs
all-good [] h = tt
all-good (c ∷ cs) h = (All-head Good c cs h, all-good cs (All-tail Good c cs h))

good-each : (cs : List ℕ) → AllGood cs → All Good cs
good-each [] g = All-nil Good
good-each (c ∷ cs) g = All-cons Good c cs g.0 (good-each cs g.1)

-- a test of each character of some bytes tells whether they are a good text
pub all-told : (bs : List ℕ) → IsUtf8 bs → (r : Bool) → MatchBool r (AllWithin Good (chars bs) 0 (length (chars bs))) ((k : ℕ) × (k < length (chars bs)) × HoldsAt (λ c. Good c → ⊥) (chars bs) k) → Decides r (GoodText bs)
all-told bs u r h = (by r h, λ g. true_from_All Good (λ c. Good c → ⊥) r (chars bs) (λ c p n. n p) h (good-each (chars bs) (spells-decodes bs g).0))
  where
    by : (r : Bool) → MatchBool r (AllWithin Good (chars bs) 0 (length (chars bs))) ((k : ℕ) × (k < length (chars bs)) × HoldsAt (λ c. Good c → ⊥) (chars bs) k) → r ≡ true → GoodText bs
    by true h e = (chars bs, (all-good (chars bs) (All-from_all_within Good (chars bs) h), encodes-chars bs u))
    by false h e = absurd (false≢true e)
