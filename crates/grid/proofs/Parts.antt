-- The elements of a list of which a part was written. Assumes nothing.
use Rattle.std.proofs.Common.{◌≡◌, ℕ, ◌+◌, ◌<◌, ◌≤◌, List, length, get_or, replicate, ⊎_elim, rules}
use Rattle.std.proofs.lemmas.List.{places, get_or-replicate, get_or_past, length-replicate}
use Rattle.std.proofs.lemmas.Bool.{cases_lt}
use borrow.Rule.Slice.PartMut.{mid_of, put_mid}

module _ {X : Type 0} (a k : ℕ) (xs ys : List X) (d : X) where
  -- before the part
  pub put-below : (n : ℕ) → n < a → a ≤ length xs → get_or (put_mid a k xs ys) n d ≡ get_or xs n d
  put-below n lt le = search (rules, places)

  -- in the part
  pub put-in : (n : ℕ) → n < length ys → a ≤ length xs → get_or (put_mid a k xs ys) (a + n) d ≡ get_or ys n d
  put-in n lt le = search (rules, places)

  -- behind the part
  pub put-above : (n : ℕ) → a + k ≤ n → a ≤ length xs → length ys ≡ k → get_or (put_mid a k xs ys) n d ≡ get_or xs n d
  put-above n far le same = search (rules, places)

  -- the part as it was
  pub mid-at : (n : ℕ) → n < k → get_or (mid_of a k xs) n d ≡ get_or xs (a + n) d
  mid-at n lt = search (rules, places)

-- copies of one element give it wherever they are read
pub alike : {X : Type 0} (n i : ℕ) (x : X) → get_or (replicate n x) i x ≡ x
alike n i x = ⊎_elim (λ lt. get_or-replicate n i x x lt) (λ le. get_or_past (replicate n x) i x (rw length-replicate le)) (cases_lt i n)
