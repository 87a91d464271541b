-- What always holds of a note.
use Rattle.std.proofs.Common.{◌≡◌, ℕ, ◌≤◌, true, leb, List, length, take, Some, None, Option, refl, sym, subst, arith}
use Rattle.hint.specs.Hints.{Hinted}
use Rattle.lines.specs.Notes.{note_of}
use Rattle.lines.specs.Stored.{stores_good}
use Rattle.lines.specs.declared.note.Note.{Note}
use Rattle.std.proofs.lemmas.Bool.{and_from, and_parts, le-leb, leb-true}
use Rattle.std.proofs.lemmas.List.{length-take}
use Rattle.std.specs.Option.{option_map}
use Rattle.text.proofs.Testing.{good-bytes, good-text}
use Rattle.text.specs.Tests.{good_bytes}
use Rattle.text.specs.Texts.{GoodText}

-- a good text of at most 1,024 bytes
pub record NoteText (text : List ℕ) : Type 0 where
  pub good : GoodText text
  pub short : length text ≤ 1024

-- what is stored, if it is there
stored-text : (memory : List ℕ) (n : ℕ) → stores_good memory (Some n) ≡ true → NoteText (take n memory)
stored-text memory n g =
    let parts = and_parts (leb n 1024) (good_bytes (take n memory)) g in
    record { good = good-text (take n memory) parts.1; short = omega (arith, length-take n memory, leb-true n 1024 parts.0) }

pub note-text : (n : Note) (text : List ℕ) → note_of n ≡ Some text → NoteText text
note-text n text e = by n.len n.good e
  where
    by : (o : Option ℕ) → stores_good n.memory o ≡ true → option_map (λ k. take k n.memory) o ≡ Some text → NoteText text
    by None g f = absurd (let z : ◌≡◌ {A = ℕ} 0 1 = cc in omega arith)
    by (Some k) g f = let same : take k n.memory ≡ text = cc in subst NoteText same (stored-text n.memory k g)

-- a good text at the front of a memory may be stored
front-stored : (memory : List ℕ) (n : ℕ) → n ≤ 1024 → GoodText (take n memory) → stores_good memory (Some n) ≡ true
front-stored memory n short good = and_from (leb n 1024) (good_bytes (take n memory)) (le-leb n 1024 short) (good-bytes (take n memory) good)

-- a hint may be stored
pub hint-stored : (hint : Option (List ℕ)) (before after : List ℕ) (r : Option ℕ) → Hinted hint before r after → stores_good after r ≡ true
hint-stored hint before after None h = refl
hint-stored hint before after (Some n) h = front-stored after n h.short h.text

-- a text at the front of a memory may be stored
pub text-stored : (memory text : List ℕ) → take (length text) memory ≡ text → length text ≤ 1024 → GoodText text → stores_good memory (Some (length text)) ≡ true
text-stored memory text same short good = front-stored memory (length text) short (subst GoodText (sym same) good)
