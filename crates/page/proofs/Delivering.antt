-- What a list of writes does to the screen.
use Rattle.std.proofs.Common.{◌≡◌, ℕ, ◌+◌, true, List, [], ◌∷◌, ◌++◌, length, take, is_ok, Ok, Err, Result, sym, refl, ap, ◌∙◌, subst, suc-add, zero-add, arith}
use borrow.Author.Tests.{clash}
use Rattle.page.proofs.Showing.{feed_all}
use Rattle.page.specs.Law.{World, Written, broke, done, later, next}
use Rattle.page.specs.Meaning.{Meant}
use Rattle.page.specs.declared.outcome.BrokenAct.{BrokenAct}
use Rattle.screen.specs.Bytes.{feed}
use Rattle.screen.specs.Screen.{Geometry, Screen}
use Rattle.std.proofs.lemmas.List.{take-append-le}
use Rattle.screen.proofs.Sequences.{feed-append}
use Rattle.terminal.proofs.Writes.{ends-fixed, ends-wrote}
use Rattle.terminal.specs.Windows.{geometry}
use Rattle.terminal.specs.declared.size.Size.{Size}

-- the bytes of writes in a row
abbrev pub joined : List (List ℕ) → List ℕ
joined [] = []
joined (w ∷ ws) = w ++ joined ws

pub feed-joined : (d : Geometry) (ws : List (List ℕ)) (s : Screen) → feed_all d ws s ≡ feed d (joined ws) s
feed-joined d [] s = refl
feed-joined d (w ∷ ws) s = feed-joined d ws (feed d w s) ∙ sym (feed-append d w (joined ws) s)

take_past : (xs ys : List ℕ) (k : ℕ) → take (length xs + k) (xs ++ ys) ≡ xs ++ take k ys
take_past [] ys k = ap (λ n. take n ys) (zero-add k)
take_past (x ∷ xs) ys k = ap (λ n. take n (x ∷ (xs ++ ys))) (suc-add (length xs) k) ∙ ap (λ (l : List ℕ). x ∷ l) (take_past xs ys k)

module _ {T H : Type 0} (w : World T H) (meant : Meant w) (z : Size) where
  abbrev shape : Geometry
  shape = geometry w.columns z

  -- some of the writes' bytes, the first ones, have worked, and all of them if no write broke
  pub record Worked-through (s : T) (ws : List (List ℕ)) (r : Result Unit BrokenAct) (t : T) : Type 0 where
    pub size : w.extent t ≡ z
    pub count : ℕ
    pub part : w.screen t ≡ feed shape (take count (joined ws)) (w.screen s)
    pub all : is_ok r ≡ true → w.screen t ≡ feed_all shape ws (w.screen s)

  sized : (s : T) → w.extent s ≡ z → geometry w.columns (w.extent s) ≡ shape
  sized s e = ap (geometry w.columns) e

  pub delivered : (s t : T) (ws : List (List ℕ)) (r : Result Unit BrokenAct) → w.extent s ≡ z → Written w.answered s ws r t → Worked-through s ws r t
  delivered s t ws r e done = record { size = e; count = 0; part = refl; all = λ _. refl }
  delivered s t ws r e (next {t = u} {w = v} {ws = vs} h k) =
      let a = ends-wrote w.columns w.screen w.extent w.answered meant.works meant.fixed v s (Ok tt) u h in
      let b : w.screen u ≡ feed shape v (w.screen s) = subst (λ d. w.screen u ≡ feed d v (w.screen s)) (sized s e) a in
      let x = delivered u t vs (Ok tt) (ends-fixed w.columns w.screen w.extent w.answered meant.works meant.fixed v s (Ok tt) u h ∙ e) k in
      record {
        size = x.size;
        count = length v + x.count;
        part = x.part ∙ ap (feed shape (take x.count (joined vs))) b ∙ sym (feed-append shape v (take x.count (joined vs)) (w.screen s)) ∙ ap (λ (bs : List ℕ). feed shape bs (w.screen s)) (sym (take_past v (joined vs) x.count));
        all = λ o. x.all o ∙ ap (feed_all shape vs) b;
      }
  delivered s t ws r e (later {t = u} {w = v} {ws = vs} {n = n} {e = f} h k) =
      let a = ends-wrote w.columns w.screen w.extent w.answered meant.works meant.fixed v s (Ok tt) u h in
      let b : w.screen u ≡ feed shape v (w.screen s) = subst (λ d. w.screen u ≡ feed d v (w.screen s)) (sized s e) a in
      let x = delivered u t vs (Err (record { number = n; write = f })) (ends-fixed w.columns w.screen w.extent w.answered meant.works meant.fixed v s (Ok tt) u h ∙ e) k in
      record {
        size = x.size;
        count = length v + x.count;
        part = x.part ∙ ap (feed shape (take x.count (joined vs))) b ∙ sym (feed-append shape v (take x.count (joined vs)) (w.screen s)) ∙ ap (λ (bs : List ℕ). feed shape bs (w.screen s)) (sym (take_past v (joined vs) x.count));
        all = λ o. absurd (clash o);
      }
  delivered s t ws r e (broke {w = v} {ws = vs} {e = f} h) =
      let a = ends-wrote w.columns w.screen w.extent w.answered meant.works meant.fixed v s (Err f) t h in
      let b : w.screen t ≡ feed shape (take f.taken v) (w.screen s) = subst (λ d. w.screen t ≡ feed d (take f.taken v) (w.screen s)) (sized s e) a.drawn in
      record {
        size = ends-fixed w.columns w.screen w.extent w.answered meant.works meant.fixed v s (Err f) t h ∙ e;
        count = f.taken;
        part = b ∙ ap (λ (bs : List ℕ). feed shape bs (w.screen s)) (sym (take-append-le f.taken v (joined vs) (let q = a.short in omega arith)));
        all = λ o. absurd (clash o);
      }
