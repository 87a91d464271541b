-- What is written to the room behind a buffer's bytes.
use Rattle.std.proofs.Common.{◌≡◌, ℕ, ◌+◌, ◌-◌, ◌≤◌, min, List, ◌++◌, length, take, drop, sym, ap, ◌∙◌, arith, length-drop}
use borrow.Rule.Slice.PartMut.{post_of, put_mid}
use Rattle.std.proofs.Math.Seq.{take-append-add}
use Rattle.std.proofs.lemmas.List.{length-take-le, take-append-le, take_all, take_min}
use Rattle.std.proofs.lemmas.Slice.{take-put_mid_below}

module _ (memory : List ℕ) (n : ℕ) (within : n ≤ length memory) where
  -- the room as it is lent
  pub lent : take (length memory - n) (drop n memory) ≡ drop n memory
  lent = take_all (length memory - n) (drop n memory) (omega (arith, length-drop n memory))

  module _ (room : List ℕ) (k : ℕ) (long : length room ≡ length (take (length memory - n) (drop n memory))) where
    all : length room ≡ length memory - n
    all = long ∙ ap length lent ∙ length-drop n memory

    pub kept : take n (put_mid n k memory room) ≡ take n memory
    kept = take-put_mid_below n k memory room n (omega arith) within

    -- j of the c bytes fit
    pub grown : (c j : ℕ) → j ≡ min c (length memory - n) → take (n + j) (put_mid n k memory room) ≡ take n memory ++ take c room
    grown c j e =
        let fits : j ≡ min c (length room) = omega (arith, e, all) in
        let behind = room ++ post_of n k memory in
        ap (λ m. take (m + j) (take n memory ++ behind)) (sym (length-take-le n memory within))
        ∙ take-append-add (take n memory) behind j
        ∙ ap (λ x. take n memory ++ x) (take-append-le j room (post_of n k memory) (omega arith) ∙ ap (λ m. take m room) fits ∙ take_min c room)
