-- Lists of writes, one behind the other.
use Rattle.std.proofs.Common.{◌≡◌, ℕ, suc, ◌+◌, ◌<◌, Bool, true, false, cond, List, [], ◌∷◌, ◌++◌, length, take, drop, get_or, Ok, Err, Result, sym, refl, ap, ◌∙◌, subst, append_assoc, append-nil, length-append, suc-add, zero-add, add-zero, arith}
use Rattle.std.proofs.lemmas.List.{get_or-map, length-map, length-take-le, take-append-drop, take_more}
use Rattle.std.proofs.lemmas.Result.{err_from_is_err_and}
use Rattle.std.specs.Result.{IsErrAnd, MatchResult}
use denote.Ref.{Bor}
use mir.Val.{bool_byte}
use Rattle.page.specs.Law.{Written, broke, done, later, next}
use Rattle.page.specs.declared.outcome.BrokenAct.{BrokenAct}
use Rattle.page.specs.Output.{framed}
use Rattle.render.specs.Numbering.{FollowAll, Follows, bytes_of, marks, shifted}
use Rattle.screen.specs.Output.{hold_bytes, release_bytes}
use Rattle.terminal.specs.Writing.{Ends}
use Rattle.terminal.specs.Answers.{WriteAnswer}
use Rattle.terminal.specs.declared.writing.BrokenWrite.{BrokenWrite}

pub byte-marks : (b : Bool) → bool_byte b ≡ marks b
byte-marks true = refl
byte-marks false = refl

-- a piece among some
pub bytes-within : (ps : List (Bor (List ℕ))) (i : ℕ) → i < length ps → i < length (bytes_of ps)
bytes-within ps i h = omega (arith, length-map ps (λ (p : Bor (List ℕ)). p.now))

pub bytes-at : (ps : List (Bor (List ℕ))) (i : ℕ) (d : Bor (List ℕ)) → i < length ps → (get_or ps i d).now ≡ get_or (bytes_of ps) i []
bytes-at ps i d h = sym (get_or-map (λ (p : Bor (List ℕ)). p.now) ps i d [] h)

module _ {T : Type 0} (answered : T → List ℕ → WriteAnswer → T → Type 0) where
  -- with no write before them
  shifted_none : (r : Result Unit BrokenAct) → shifted 0 r ≡ r
  shifted_none (Ok u) = refl
  shifted_none (Err b) = ap (λ n. Err (record { number = n; write = b.write })) (zero-add b.number)

  -- one more write before them
  one-before : {s t u : T} {w : List ℕ} {ws : List (List ℕ)} (k : ℕ) (r : Result Unit BrokenAct) → Ends answered w s (Ok tt) t → Written answered t ws (shifted k r) u → Written answered s (w ∷ ws) (shifted (suc k) r) u
  one-before k (Ok x) h more = next h more
  one-before {s} {t} {u} {w} {ws} k (Err b) h more =
      subst (λ n. Written answered s (w ∷ ws) (Err (record { number = n; write = b.write })) u) (sym (suc-add k b.number)) (later h more)

  -- writes that are all taken, and more behind them
  pub written-append : {s t u : T} {xs ys : List (List ℕ)} (r : Result Unit BrokenAct) → Written answered s xs (Ok tt) t → Written answered t ys r u → Written answered s (xs ++ ys) (shifted (length xs) r) u
  written-append {s} {t} {u} {xs} {ys} r done more = subst (λ x. Written answered s ys x u) (sym (shifted_none r)) more
  written-append r (next {ws = ws} h k) more = one-before (length ws) r h (written-append r k more)

  -- the broken write is one of the writes
  pub written-number : {s t : T} {ws : List (List ℕ)} {b : BrokenAct} → Written answered s ws (Err b) t → b.number < length ws
  written-number (later h k) = let i = written-number k in omega arith
  written-number (broke h) = omega arith

  written-some : {s t : T} {b : BrokenAct} → Written answered s [] (Err b) t → ⊥
  written-some h = let i = written-number h in omega arith

  -- what would have come behind a broken write is not written
  pub written-front : {s t : T} {xs : List (List ℕ)} {b : BrokenAct} (ys : List (List ℕ)) → Written answered s xs (Err b) t → Written answered s (xs ++ ys) (Err b) t
  written-front ys (later h k) = later h (written-front ys k)
  written-front ys (broke h) = broke h

  -- no write at all
  pub written_none : (s : T) (b : Bool) (ws : List (List ℕ)) → b ≡ false → Written answered s (cond b ws []) (Ok tt) s
  written_none s b ws e = subst (λ x. Written answered s (cond x ws []) (Ok tt) s) (sym e) done

  -- a write behind others, which gives its broken end their number
  pub followed : {P : BrokenWrite → BrokenAct → Type 0} (s t : T) (w : List ℕ) (n : ℕ) (r : Result Unit BrokenWrite) (q : Result Unit BrokenAct)
      → Ends answered w s r t → MatchResult r (λ x. q ≡ Ok x) (λ e. IsErrAnd q (P e)) → ((e : BrokenWrite) (b : BrokenAct) → P e b → b ≡ record { number = n; write = e }) → Follows answered n s w q t
  followed s t w n (Ok u) q h same is x ws e front = subst (λ a. Written answered x (ws ++ (w ∷ [])) a t) (sym same) (written-append (Ok tt) front (next h done))
  followed s t w n (Err b) q h same is x ws e front =
      let p = err_from_is_err_and q same in
      let number : p.0 ≡ record { number = length ws + 0; write = b } = is b p.0 p.2 ∙ ap (λ k. record { number = k; write = b }) (sym e ∙ sym (add-zero (length ws))) in
      subst (λ a. Written answered x (ws ++ (w ∷ [])) a t) (sym (p.1 ∙ ap Err number)) (written-append (Err (record { number = 0; write = b })) front (broke h))

  -- some writes behind n others, so far i of them
  module _ (n i : ℕ) (s t u : T) (more : List (List ℕ)) (all : FollowAll answered n s (take i more) (Ok tt) t) (within : i < length more) where
    pieces-here : {w : List ℕ} (r : Result Unit BrokenAct) → Follows answered (n + i) t w r u → w ≡ get_or more i [] → FollowAll answered n s (take (i + 1) more) r u
    pieces-here {w} r f here x ws e front =
        subst (λ a. Written answered x a r u) (append_assoc ws (take i more) (w ∷ []) ∙ ap (λ a. ws ++ a) (ap (λ y. take i more ++ (y ∷ [])) here ∙ sym (take_more more i [] within)))
        (f x (ws ++ take i more) (length-append ws (take i more) ∙ (λ k. e k + length-take-le i more (omega arith) k)) (all x ws e front))

    pub pieces-more : {w : List ℕ} → Follows answered (n + i) t w (Ok tt) u → w ≡ get_or more i [] → FollowAll answered n s (take (i + 1) more) (Ok tt) u
    pieces-more = pieces-here (Ok tt)

    pub pieces-broke : {w : List ℕ} (b : BrokenAct) → Follows answered (n + i) t w (Err b) u → w ≡ get_or more i [] → FollowAll answered n s more (Err b) u
    pieces-broke b f here x ws e front =
        subst (λ a. Written answered x a (Err b) u) (append_assoc ws (take (i + 1) more) (drop (i + 1) more) ∙ ap (λ a. ws ++ a) (take-append-drop (i + 1) more))
        (written-front (drop (i + 1) more) (pieces-here (Err b) f here x ws e front))

  -- writes in an update: its begin breaks
  pub framed-begin : {s t : T} {b : BrokenAct} (holds : Bool) (body : List (List ℕ)) → Written answered s (cond holds (hold_bytes ∷ []) []) (Err b) t → Written answered s (framed holds body) (Err b) t
  framed-begin true body h = written-front (body ++ (release_bytes ∷ [])) h
  framed-begin false body h = absurd (written-some h)

  module _ (n : ℕ) (s t u : T) (body : List (List ℕ)) where
    -- one of them breaks
    pub framed-body : (holds : Bool) (b : BrokenAct) → n ≡ marks holds → Written answered s (cond holds (hold_bytes ∷ []) []) (Ok tt) t → FollowAll answered n t body (Err b) u → Written answered s (framed holds body) (Err b) u
    framed-body true b e begun f = written-front (release_bytes ∷ []) (f s (hold_bytes ∷ []) (sym e) begun)
    framed-body false b e begun f = f s [] (sym e) begun

    -- all are taken, and its end follows, with its number among all of them
    pub framed-end : {P : BrokenAct → BrokenAct → Type 0} (v : T) (holds : Bool) (r q : Result Unit BrokenAct) (k : ℕ) → k ≡ length body → n ≡ marks holds → Written answered s (cond holds (hold_bytes ∷ []) []) (Ok tt) t → FollowAll answered n t body (Ok tt) u
        → Written answered u (cond holds (release_bytes ∷ []) []) r v → MatchResult r (λ x. q ≡ Ok x) (λ e. IsErrAnd q (P e)) → ((e b : BrokenAct) → P e b → b ≡ record { number = n + k; write = e.write }) → Written answered s (framed holds body) q v
    framed-end v true (Ok x) q k long e begun f h same is = subst (λ a. Written answered s (framed true body) a v) (sym same) (written-append (Ok tt) (f s (hold_bytes ∷ []) (sym e) begun) h)
    framed-end v true (Err b) q k long e begun f h same is =
        let p = err_from_is_err_and q same in
        let first = written-number h in
        let count : n + k ≡ suc (length body) + b.number = omega arith in
        subst (λ a. Written answered s (framed true body) a v) (sym (p.1 ∙ ap Err (is b p.0 p.2 ∙ ap (λ i. record { number = i; write = b.write }) count)))
        (written-append (Err b) (f s (hold_bytes ∷ []) (sym e) begun) h)
    framed-end v false (Ok x) q k long e begun f h same is = subst (λ a. Written answered s a q v) (append-nil body) (subst (λ a. Written answered s (body ++ []) a v) (sym same) (written-append (Ok tt) (f s [] (sym e) begun) h))
    framed-end v false (Err b) q k long e begun f h same is = absurd (written-some h)
