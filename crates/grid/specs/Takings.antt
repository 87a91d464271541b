-- Bytes that fit, one after the other. Assumes nothing.
use Rattle.std.specs.Prelude.{◌≡◌, ℕ, ◌+◌, ◌<◌, ◌≤◌, Bool, true, false, cond, List, [], ◌∷◌, length, take, drop, slice_index, slice_index_or, refl}
use Rattle.std.proofs.Common.{sym, ap, ◌∙◌, arith}
use Rattle.std.proofs.lemmas.List.{take_more, drop_more, drop_all}
use Rattle.std.proofs.lemmas.Bool.{cond-true, cond-false, le-leb, lt-leb}
use Rattle.screen.specs.Screen.{Screen, Geometry}
use Rattle.screen.specs.Bytes.{feed, step}
use Rattle.screen.proofs.Sequences.{feed-append}
use Rattle.grid.specs.Fitting.{fits, fitting}

-- no more bytes fit than there are
pub fitting-within : (d : Geometry) (depth : ℕ) (bs : List ℕ) (s : Screen) → fitting d depth bs s ≤ length bs
fitting-within d depth [] s = omega arith
fitting-within d depth (b ∷ bs) s = go (fits d depth b s) (fitting-within d depth bs (step d b s))
  where
    go : (t : Bool) → fitting d depth bs (step d b s) ≤ length bs → cond t (1 + fitting d depth bs (step d b s)) 0 ≤ length (b ∷ bs)
    go true h = omega arith
    go false h = omega arith

module _ (d : Geometry) (depth : ℕ) (bytes : List ℕ) (s : Screen) where
  -- the first i bytes fit, and the screen is then t
  pub record Sofar (i : ℕ) (t : Screen) : Type 0 where
    pub drawn : t ≡ feed d (take i bytes) s
    pub count : fitting d depth bytes s ≡ i + fitting d depth (drop i bytes) t

  next : (i : ℕ) (t : Screen) → i < length bytes → fitting d depth (drop i bytes) t ≡ cond (fits d depth (slice_index bytes i) t) (1 + fitting d depth (drop (i + 1) bytes) (step d (slice_index bytes i) t)) 0
  next i t within = ap (λ l. fitting d depth l t) (drop_more bytes i 0 within)

  pub sofar-none : Sofar 0 s
  sofar-none = record { drawn = refl; count = omega arith }

  pub sofar-more : (i : ℕ) (t u : Screen) → i < length bytes → Sofar i t → u ≡ step d (slice_index bytes i) t → (step d (slice_index bytes i) t).top + d.rows ≤ depth → Sofar (i + 1) u
  sofar-more i t u within h e room =
      let b = slice_index_or bytes i 0 in
      let more : fitting d depth (drop i bytes) t ≡ 1 + fitting d depth (drop (i + 1) bytes) (step d b t) = next i t within ∙ cond-true (fits d depth b t) _ _ (le-leb ((step d b t).top + d.rows) depth room) in
      record {
        drawn = e ∙ ap (step d b) h.drawn ∙ sym (ap (λ l. feed d l s) (take_more bytes i 0 within) ∙ feed-append d (take i bytes) (b ∷ []) s);
        count = omega (arith, h.count, more, ap (fitting d depth (drop (i + 1) bytes)) e);
      }

  pub sofar-stop : (i : ℕ) (t : Screen) → i < length bytes → Sofar i t → depth < (step d (slice_index bytes i) t).top + d.rows → i ≡ fitting d depth bytes s
  sofar-stop i t within h full =
      let b = slice_index_or bytes i 0 in
      let none : fitting d depth (drop i bytes) t ≡ 0 = next i t within ∙ cond-false (fits d depth b t) _ _ (lt-leb ((step d b t).top + d.rows) depth full) in
      omega (arith, h.count, none)

  pub sofar-all : (i : ℕ) (t : Screen) → length bytes ≤ i → Sofar i t → i ≡ fitting d depth bytes s
  sofar-all i t past h =
      let none : fitting d depth (drop i bytes) t ≡ 0 = ap (λ l. fitting d depth l t) (drop_all i bytes past) in
      omega (arith, h.count, none)
