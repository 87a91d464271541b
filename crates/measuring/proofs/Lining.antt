-- Where a line ends behind a prompt, up to the edit position and as a whole. Assumes nothing.
use Rattle.std.proofs.Common.{◌≡◌, ℕ, ◌+◌, ◌-◌, ◌*◌, ◌≤◌, List, [], ◌∷◌, ◌++◌, length, take, drop, Some, None, Option, sym, ap, ◌∙◌, subst, refl, inr, add-zero, append_assoc, le_refl, arith, length-append}
use Rattle.layout.proofs.GoodTexts.{walk_place-append}
use Rattle.layout.specs.Drawing.{walk_place}
use Rattle.layout.specs.declared.layout.Position.{Position}
use Rattle.measuring.proofs.Reaching.{some-none, some_same}
use Rattle.measuring.specs.declared.measuring.LineEnds.{LineEnds}
use Rattle.text.specs.Characters.{Good}
use Rattle.measuring.specs.Measured.{Gives, Inserts, Measures, PromptAt, Repeats, Walks}
use Rattle.page.proofs.Spelt.{good-cut, good-times, insert-front, one-good}
use Rattle.page.specs.Acts.{times}
use Rattle.page.specs.Rules.{AtBoundary}
use Rattle.screen.specs.Places.{top_left}
use Rattle.std.proofs.lemmas.List.{take-append-drop, take_rest}
use Rattle.std.proofs.lemmas.Str.{chars-append}
use Rattle.std.specs.Str.{chars}
use Rattle.text.proofs.Spelling.{good-text-append, good-text-utf8}
use Rattle.text.specs.Texts.{GoodText}

module _ (w : ℕ → ℕ) (cols : ℕ) where
  -- the characters end at the place, on row k at most
  pub record Reached (cs : List ℕ) (k : ℕ) (q : Position) : Type 0 where
    pub is : q ≡ walk_place cols w cs top_left
    pub row : q.row ≤ k

  abbrev Leads : List ℕ → ℕ → Option Position → Type 0
  Leads cs k (Some q) = Reached cs k q
  Leads cs k None = ⊥

  -- a text behind the characters
  next : (cs ds t : List ℕ) (k m : ℕ) (a : Position) (r : Option Position) → 2 ≤ cols → Reached cs k a → GoodText t → cs ++ chars t ≡ ds → k + length t ≤ m → m ≤ 65535 → Walks w cols a t r → Leads ds m r
  next cs ds t k m a (Some b) wide at good e less low walks =
      let row = at.row in
      let rows = walks.rows in
      record {
        is = some_same (walks.reached wide good (omega arith)) ∙ ap (walk_place cols w (chars t)) at.is ∙ sym (walk_place-append w cols cs (chars t) top_left) ∙ ap (λ (x : List ℕ). walk_place cols w x top_left) e;
        row = omega arith;
      }
  next cs ds t k m a None wide at good e less low walks = let row = at.row in some-none (walks.reached wide good (omega arith))

  -- and one that comes so many times
  again : (cs ds t : List ℕ) (n k m : ℕ) (a : Position) (r : Option Position) → 2 ≤ cols → Reached cs k a → GoodText t → cs ++ chars (times n t) ≡ ds → k + n * length t ≤ m → m ≤ 65535 → Repeats w cols a t n r → Leads ds m r
  again cs ds t n k m a (Some b) wide at good e less low walks =
      let row = at.row in
      let rows = walks.rows in
      record {
        is = some_same (walks.reached wide good (omega arith)) ∙ ap (walk_place cols w (chars (times n t))) at.is ∙ sym (walk_place-append w cols cs (chars (times n t)) top_left) ∙ ap (λ (x : List ℕ). walk_place cols w x top_left) e;
        row = omega arith;
      }
  again cs ds t n k m a None wide at good e less low walks = let row = at.row in some-none (walks.reached wide good (omega arith))

  module _ (p : Position) (line : List ℕ) (pos : ℕ) where
    -- the part before the edit position
    front : (ps : List ℕ) → PromptAt w cols ps p → GoodText line → length line ≤ 4096 → AtBoundary line pos → (r : Option Position) → Walks w cols p (take pos line) r → Leads (ps ++ chars (take pos line)) (512 + length (take pos line)) r
    front ps at good len cut r walks =
        let both = ap length (take-append-drop pos line) in
        let sum = length-append (take pos line) (drop pos line) in
        next ps (ps ++ chars (take pos line)) (take pos line) 512 (512 + length (take pos line)) p r at.wide (record { is = at.place; row = at.low }) (good-cut line pos good cut).0 (λ i. ps ++ chars (take pos line)) (le_refl _) (omega arith)
        walks

    -- the part behind it
    rest : (cs ds : List ℕ) (k m : ℕ) (a : Position) (r : Option Position) → 2 ≤ cols → Reached cs k a → GoodText line → AtBoundary line pos → cs ++ chars (drop pos line) ≡ ds → k + length (drop pos line) ≤ m → m ≤ 65535 → Walks w cols a (take (length line - pos) (drop pos line)) r → Leads ds m r
    rest cs ds k m a r wide at good cut e less low walks =
        next cs ds (drop pos line) k m a r wide at (good-cut line pos good cut).1 e less low (subst (λ (x : List ℕ). Walks w cols a x r) (take_rest line pos) walks)

    module _ (t : List ℕ) (n : ℕ) where
      abbrev New : List ℕ
      New = take pos line ++ (times n t ++ drop pos line)

      -- the characters put in
      put : (ps : List ℕ) (a : Position) (r : Option Position) → 2 ≤ cols → GoodText line → length line + n * length t ≤ 4096 → AtBoundary line pos → GoodText t → Reached (ps ++ chars (take pos line)) (512 + length (take pos line)) a → Repeats w cols a t n r
          → Leads (ps ++ chars (take (pos + n * length t) New)) (512 + length (take pos line) + n * length t) r
      put ps a r wide good len cut one at walks =
          let both = ap length (take-append-drop pos line) in
          let sum = length-append (take pos line) (drop pos line) in
          again (ps ++ chars (take pos line)) (ps ++ chars (take (pos + n * length t) New)) t n (512 + length (take pos line)) (512 + length (take pos line) + n * length t) a r wide at one
          (append_assoc ps (chars (take pos line)) (chars (times n t))
          ∙ ap (λ (x : List ℕ). ps ++ x) (sym (chars-append (take pos line) (times n t) cut.1) ∙ ap chars (sym (insert-front line t pos n cut.0))))
          (le_refl _) (omega arith) walks

      -- and all behind them
      behind : (ps : List ℕ) (a : Position) (r : Option Position) → 2 ≤ cols → GoodText line → length line + n * length t ≤ 4096 → AtBoundary line pos → GoodText t → Reached (ps ++ chars (take (pos + n * length t) New)) (512 + length (take pos line) + n * length t) a → Walks w cols a (take (length line - pos) (drop pos line)) r
          → Leads (ps ++ chars New) (512 + (length line + n * length t)) r
      behind ps a r wide good len cut one at walks =
          let both = ap length (take-append-drop pos line) in
          let sum = length-append (take pos line) (drop pos line) in
          let fine = good-text-utf8 (take pos line ++ times n t) (good-text-append (take pos line) (times n t) (good-cut line pos good cut).0 (good-times n t one)) in
          rest (ps ++ chars (take (pos + n * length t) New)) (ps ++ chars New) (512 + length (take pos line) + n * length t) (512 + (length line + n * length t)) a r wide at good cut
          (append_assoc ps (chars (take (pos + n * length t) New)) (chars (drop pos line))
          ∙ ap (λ (x : List ℕ). ps ++ x) (ap (λ (x : List ℕ). chars x ++ chars (drop pos line)) (insert-front line t pos n cut.0) ∙ sym (chars-append (take pos line ++ times n t) (drop pos line) fine) ∙ ap chars (append_assoc (take pos line) (times n t) (drop pos line))))
          (omega arith) (omega arith) walks

      pub insert-no-front : Walks w cols p (take pos line) None → Inserts w cols p line pos t n None
      insert-no-front f ps at good len cut one = front ps at good (omega arith) cut None f

      pub insert-no-text : (a : Position) → Walks w cols p (take pos line) (Some a) → Repeats w cols a t n None → Inserts w cols p line pos t n None
      insert-no-text a f m ps at good len cut one = put ps a None at.wide good len cut (one-good t one) (front ps at good (omega arith) cut (Some a) f) m

      pub insert-no-rest : (a b : Position) → Walks w cols p (take pos line) (Some a) → Repeats w cols a t n (Some b) → Walks w cols b (take (length line - pos) (drop pos line)) None → Inserts w cols p line pos t n None
      insert-no-rest a b f m l ps at good len cut one =
          behind ps b None at.wide good len cut (one-good t one) (put ps a (Some b) at.wide good len cut (one-good t one) (front ps at good (omega arith) cut (Some a) f) m) l

      pub inserts : (a b e : Position) → Walks w cols p (take pos line) (Some a) → Repeats w cols a t n (Some b) → Walks w cols b (take (length line - pos) (drop pos line)) (Some e) → Inserts w cols p line pos t n (Some (record { cursor = b; end = e }))
      inserts a b e f m l ps at good len cut one =
          let x = put ps a (Some b) at.wide good len cut (one-good t one) (front ps at good (omega arith) cut (Some a) f) m in
          let y = behind ps b (Some e) at.wide good len cut (one-good t one) x l in
          let row = y.row in
          record { cursor = x.is; end = y.is; low = omega arith }

  -- a line is measured as with a space put in no times
  pub measures-insert : (p : Position) (line : List ℕ) (pos : ℕ) (r : Option LineEnds) → Inserts w cols p line pos (32 ∷ []) 0 r → Measures w cols p line pos r
  unfolding lib.Utf8.encode
  measures-insert p line pos r inserted ps at good len cut =
      subst (λ (x : List ℕ). Gives w cols ps x pos r) (take-append-drop pos line)
      (subst (λ k. Gives w cols ps (take pos line ++ drop pos line) k r) (add-zero pos) (inserted ps at good (omega arith) cut (32, good-space, refl)))
    where
      good-space : Good 32
      good-space = (refl, inr refl)
