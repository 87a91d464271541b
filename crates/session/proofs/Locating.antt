-- Where the line ends by the layout, and judgements that rest on it.
use Rattle.std.proofs.Common.{◌≡◌, ℕ, ◌+◌, ◌-◌, ◌*◌, ◌<◌, ◌≤◌, Bool, true, false, cond, eqb, List, [], ◌∷◌, ◌++◌, length, take, drop, Some, None, Ok, Err, Option, Result, IfSome, sym, ap, ◌∙◌, subst, inr, append-nil, arith, length-append}
use lib.Utf8.{encode, encodes}
use Rattle.judging.proofs.Judgements.{holds, holds_not, judges-insert}
use Rattle.judging.specs.Judgements.{JudgesInsert, JudgesLine, inserted}
use Rattle.judging.specs.declared.judging.Placed.{Placed}
use Rattle.layout.proofs.GoodTexts.{walk_place-append}
use Rattle.layout.specs.Drawing.{step_place, walk_place}
use Rattle.layout.specs.Measuring.{at_end, next_row}
use Rattle.layout.specs.declared.block.Layout.{Layout}
use Rattle.layout.specs.declared.layout.Position.{Position}
use Rattle.lines.proofs.Buffers.{line-place}
use Rattle.lines.specs.Lines.{InsertRule, line_of}
use Rattle.lines.specs.Notes.{note_of}
use Rattle.lines.specs.Notices.{NoticeRule}
use Rattle.measuring.proofs.Fitting.{fills, place_is}
use Rattle.measuring.proofs.Lining.{insert-no-rest, insert-no-text, inserts}
use Rattle.measuring.proofs.Walking.{some-bytes, step-row}
use Rattle.measuring.specs.Measured.{Computes, Repeats, Walks}
use Rattle.measuring.specs.declared.measuring.LineEnds.{LineEnds}
use Rattle.page.proofs.Needing.{needs-map, needs-none}
use Rattle.page.proofs.Spelt.{good-cut, good-decodes}
use Rattle.page.specs.Acts.{clear, insert, notice, refresh}
use Rattle.screen.specs.Places.{top_left}
use Rattle.session.proofs.Heights.{line-good}
use Rattle.session.specs.Admitting.{Admits}
use Rattle.session.specs.Judging.{JudgesEnds}
use Rattle.session.specs.Locating.{Fronts, JudgesHeight, JudgesPut, JudgesWalked, Knows, Stood, placed_at, text_end}
use Rattle.session.specs.Sessions.{Shown, Sound, Stands, prompt_of}
use Rattle.session.specs.declared.session.Session.{Session}
use Rattle.session.specs.declared.standing.Standing.{Standing}
use Rattle.session.specs.declared.standing.Standing.TheVariants as standing
use Rattle.session.specs.declared.tables.Tables.{Tables}
use Rattle.std.proofs.Math.Seq.{take-length}
use Rattle.std.proofs.lemmas.Bool.{cond_both, eqb-true}
use Rattle.std.proofs.lemmas.List.{take_rest}
use Rattle.std.proofs.lemmas.Str.{encodes-chars}
use Rattle.std.specs.Str.{chars}
use Rattle.terminal.specs.Windows.{geometry}
use Rattle.terminal.specs.declared.size.Size.{Size}
use Rattle.text.proofs.Spelling.{all-good-append, good-text-utf8}
use Rattle.text.specs.Characters.{AllGood}
use Rattle.text.specs.Texts.{GoodText}
use Rattle.text.specs.declared.refusal.Refusal.{Refusal}
use Rattle.text.specs.declared.refusal.Refusal.TheVariants.{Tall}

-- the place that a walk reached, by the place that counts a full row as the next, and by whether its row is full
raw-by : (cols : ℕ) (p : Position) (t : Bool) → eqb p.col cols ≡ t → p ≡ cond t (record { col = cols; row = (cond t (next_row p) p).row - 1 }) (cond t (next_row p) p)
raw-by cols p true e = let row : p.row ≡ p.row + 1 - 1 = omega arith in λ i. record { col = eqb-true p.col cols e i; row = row i }
raw-by cols p false e = λ i. p

raw-end : (cols : ℕ) (p e : Position) (full : Bool) → at_end cols p ≡ e → eqb p.col cols ≡ full → p ≡ cond full (record { col = cols; row = e.row - 1 }) e
raw-end cols p e full at is =
    raw-by cols p (eqb p.col cols) (λ i. eqb p.col cols)
    ∙ (λ i. cond (is i) (record { col = cols; row = (at i).row - 1 }) (at i))

-- a place behind a column is no full row's
apart : (t : Bool) (p q c : Position) → cond t q p ≡ c → q.col ≡ 0 → 0 < c.col → p ≡ c
apart true p q c e z some = let k = ap (λ (x : Position). x.col) e in absurd (let n : ◌≡◌ {A = ℕ} 0 1 = omega (arith, k, z, some) in omega arith)
apart false p q c e z some = e

-- rows by the characters, and those by the bytes
walked-row : (w : ℕ → ℕ) (cols : ℕ) (cs : List ℕ) (p : Position) → (walk_place cols w cs p).row ≤ p.row + length cs
walked-row w cols [] p = omega arith
walked-row w cols (c ∷ cs) p = let a = walked-row w cols cs (step_place cols w c p) in let b = step-row w cols c p in omega arith

few-chars : (cs : List ℕ) → length cs ≤ length (encodes cs)
few-chars [] = omega arith
few-chars (c ∷ cs) = let a = few-chars cs in let b = some-bytes c in let s = length-append (encode c) (encodes cs) in omega arith

few : (text : List ℕ) → GoodText text → length (chars text) ≤ length text
few text good = subst (λ (x : List ℕ). length (chars text) ≤ length x) (encodes-chars text (good-text-utf8 text good)) (few-chars (chars text))

module _ (w : ℕ → ℕ) (narrow : (c : ℕ) → w c ≤ 2) (s : Session) (b : Tables) where
  abbrev ps : List ℕ
  ps = prompt_of b

  abbrev ln : List ℕ
  ln = line_of b.line

  cut : GoodText (take b.line.pos ln) × GoodText (drop b.line.pos ln)
  cut = good-cut ln b.line.pos (line-good b) (line-place b.line)

  module _ (stands : s.standing ≡ standing.Open) (bare : note_of b.note ≡ None) (begun : s.begun ≡ s.size) (sound : Sound w s b) where
    pub shown : Shown (geometry w s.size) ps ln b.line.pos None (note_of b.hint) s.layout
    shown =
        subst (λ (o : Option (List ℕ)). Shown (geometry w s.size) ps ln b.line.pos o (note_of b.hint) s.layout) bare
        (subst (λ (st : Standing). Stands (geometry w s.size) b s.layout st) stands (sound.stands begun))

    abbrev ts : List ℕ
    ts = ps ++ (chars ln ++ [])

    good-ts : AllGood ts
    good-ts = all-good-append ps (chars ln ++ []) sound.prompt.good (all-good-append (chars ln) [] (good-decodes ln (line-good b)) tt)

    abbrev reached : Position
    reached = walk_place s.size.cols w ts top_left

    end-is : reached ≡ text_end s.size.cols s.layout
    end-is =
        raw-end s.size.cols reached s.layout.end s.layout.full
        (place_is w narrow s.size reached ts good-ts (λ i. reached) ∙ sym shown.laid.end)
        (fills w narrow s.size reached ts good-ts (λ i. reached) ∙ sym shown.laid.full)

    whole : text_end s.size.cols s.layout ≡ walk_place s.size.cols w (ps ++ chars ln) top_left
    whole = sym end-is ∙ ap (λ (x : List ℕ). walk_place s.size.cols w (ps ++ x) top_left) (append-nil (chars ln))

    low-end : (text_end s.size.cols s.layout).row ≤ 5000
    low-end =
        let k = s.layout.low in
        cond_both s.layout.full _ _ (λ (p : Position). p.row ≤ 5000) (λ _. omega arith) (λ _. omega arith)

    -- at the end of the line
    pub known-end : b.line.pos ≡ length ln → Stood w s b (placed_at (text_end s.size.cols s.layout) (text_end s.size.cols s.layout) s)
    known-end e = (
      shown.line,
      record {
        ends = record {
          cursor = whole ∙ ap (λ (x : List ℕ). walk_place s.size.cols w (ps ++ chars x) top_left) (sym (ap (λ k. take k ln) e ∙ take-length ln));
          end = whole;
          low = low-end;
        };
        laid = shown.laid;
      },
    )

    -- behind a column
    pub known-within : (c : Position) → c ≡ s.layout.cursor → 0 < c.col → Stood w s b (placed_at c (text_end s.size.cols s.layout) s)
    known-within c is some =
        let fs = ps ++ chars (take b.line.pos ln) in
        let p = walk_place s.size.cols w fs top_left in
        let good = all-good-append ps (chars (take b.line.pos ln)) sound.prompt.good (good-decodes (take b.line.pos ln) cut.0) in (
          shown.line,
          record {
            ends = record {
              cursor = sym (apart (eqb p.col s.size.cols) p (next_row p) c (place_is w narrow s.size p fs good (λ i. p) ∙ sym shown.laid.cursor ∙ sym is) (λ i. 0) some);
              end = whole;
              low = low-end;
            };
            laid = shown.laid;
          },
        )

  -- the line before the edit position, walked from the prompt
  front-walks : (front : Position) → Sound w s b → Fronts w s b front → Walks w s.size.cols s.prompt (take b.line.pos ln) (Some front)
  front-walks front sound is =
      let t = take b.line.pos ln in
      let e : front ≡ walk_place s.size.cols w (chars t) s.prompt
      = is ∙ walk_place-append w s.size.cols ps (chars t) top_left ∙ ap (walk_place s.size.cols w (chars t)) (sym sound.prompt.prompt.place) in
      record {
        reached = λ wide good low. ap Some e;
        rows = subst (λ (q : Position). q.row ≤ s.prompt.row + length t) (sym e) (let r = walked-row w s.size.cols (chars t) s.prompt in let k = few t cut.0 in omega arith);
      }

  -- a character put in where the line before it ends
  module _ (front : Position) (t : List ℕ) (n : ℕ) (rule : InsertRule ln t n None) where
    rest-walks : (a : Position) (rest : List ℕ) (r : Option Position) → rest ≡ drop b.line.pos ln → Walks w s.size.cols a rest r → Walks w s.size.cols a (take (length ln - b.line.pos) (drop b.line.pos ln)) r
    rest-walks a rest r e = subst (λ (x : List ℕ). Walks w s.size.cols a x r) (e ∙ sym (take_rest ln b.line.pos))

    pub put-no-text : Repeats w s.size.cols front t n None → JudgesPut w s b front t n (Err Tall)
    put-no-text m sound is =
        judges-insert w s.prompt s.size b.line ln t b.line.pos n s.size.cols None (Err Tall) rule (λ i. ln) (λ i. b.line.pos) (λ i. s.size.cols)
        (insert-no-text w s.size.cols s.prompt ln b.line.pos t n front (front-walks front sound is) m) (λ i. Err Tall)

    pub put-no-rest : (a : Position) (rest : List ℕ) → rest ≡ drop b.line.pos ln → Repeats w s.size.cols front t n (Some a) → Walks w s.size.cols a rest None → JudgesPut w s b front t n (Err Tall)
    put-no-rest a rest same m l sound is =
        judges-insert w s.prompt s.size b.line ln t b.line.pos n s.size.cols None (Err Tall) rule (λ i. ln) (λ i. b.line.pos) (λ i. s.size.cols)
        (insert-no-rest w s.size.cols s.prompt ln b.line.pos t n front a (front-walks front sound is) m (rest-walks a rest None same l)) (λ i. Err Tall)

    module _ (a e : Position) (rest : List ℕ) (same : rest ≡ drop b.line.pos ln) (m : Repeats w s.size.cols front t n (Some a)) (l : Walks w s.size.cols a rest (Some e)) where
      abbrev ends : LineEnds
      ends = record { cursor = a; end = e }

      pub put-high : Computes w s.size s.prompt ends None None → JudgesPut w s b front t n (Err Tall)
      put-high none sound is =
          judges-insert w s.prompt s.size b.line ln t b.line.pos n s.size.cols (Some ends) (Err Tall) rule (λ i. ln) (λ i. b.line.pos) (λ i. s.size.cols)
          (inserts w s.size.cols s.prompt ln b.line.pos t n front a e (front-walks front sound is) m (rest-walks a rest (Some e) same l)) (holds_not w s.prompt s.size (Some ends) ends (λ i. Some ends) none)

      pub put-held : (k : Layout) → Computes w s.size s.prompt ends None (Some k) → JudgesPut w s b front t n (Ok (record { ends = ends; layout = k }))
      put-held k laid sound is =
          judges-insert w s.prompt s.size b.line ln t b.line.pos n s.size.cols (Some ends) (Ok (record { ends = ends; layout = k })) rule (λ i. ln) (λ i. b.line.pos) (λ i. s.size.cols)
          (inserts w s.size.cols s.prompt ln b.line.pos t n front a e (front-walks front sound is) m (rest-walks a rest (Some e) same l)) (holds w s.prompt s.size (Some ends) ends k (λ i. Some ends) laid)

-- the line judged by its height
module _ (w : ℕ → ℕ) (s : Session) (b : Tables) where
  pub height-known : (e : Placed) (o : Option Placed) → o ≡ Some e → Knows w s b o → JudgesHeight w s b (Ok e)
  height-known e o is knows begun sound =
      let h : Stood w s b e = subst (λ (x : Option Placed). IfSome x (Stood w s b)) is (knows begun sound) in
      record { refuses = inr (h.0, λ i. None); tells = h.1 }

  pub height-measured : (r : Result Placed Refusal) → JudgesLine w s.prompt s.size (line_of b.line) b.line.pos r → JudgesHeight w s b r
  height-measured r judged begun sound = judged (prompt_of b) sound.prompt

  module _ (extent : Size) (r : Result Placed Refusal) (judged : JudgesHeight w s b r) where
    pub refresh-judged : Admits s extent false None → JudgesEnds w s b extent refresh (line_of b.line) b.line.pos r
    refresh-judged admits =
        let a = needs-none admits in
        let z = needs-none a.1 in
        record {
          refuses = λ sound v. inr (a.0, inr (z.0, inr (tt, inr (tt, inr (tt, (judged z.0.1 sound).refuses)))));
          tells = λ sound. (judged z.0.1 sound).tells;
        }

    pub clear-judged : Admits s extent true None → JudgesEnds w s b extent clear (line_of b.line) b.line.pos r
    clear-judged admits =
        let a = needs-none admits in
        let z = needs-none a.1 in
        record {
          refuses = λ sound v. inr (a.0, inr (z.0, inr (tt, inr (tt, inr (tt, (judged z.0.1 sound).refuses)))));
          tells = λ sound. (judged z.0.1 sound).tells;
        }

    pub notice-judged : (t : List ℕ) → Admits s extent false None → NoticeRule t None → JudgesEnds w s b extent (notice t) (line_of b.line) b.line.pos r
    notice-judged t admits rule =
        let a = needs-none admits in
        let z = needs-none a.1 in
        let k = needs-none rule in
        record {
          refuses = λ sound v. inr (a.0, inr (z.0, inr (k.0, inr ((needs-none k.1).0, inr (tt, (judged z.0.1 sound).refuses)))));
          tells = λ sound. (judged z.0.1 sound).tells;
        }

  -- a character put in, by what the layout tells, or measured behind the prompt
  module _ (t : List ℕ) (n : ℕ) (r : Result Placed Refusal) where
    pub walked-known : (e : Placed) (o : Option Placed) → o ≡ Some e → Knows w s b o → JudgesPut w s b e.ends.cursor t n r → JudgesWalked w s b t n r
    walked-known e o is knows put begun sound =
        put sound (subst (λ (x : Option Placed). IfSome x (Stood w s b)) is (knows begun sound)).1.ends.cursor (prompt_of b) sound.prompt

    pub walked-measured : JudgesInsert w s.prompt s.size (line_of b.line) b.line.pos t n r → JudgesWalked w s b t n r
    walked-measured judged begun sound = judged (prompt_of b) sound.prompt

    -- and judged by its needs
    pub insert-judged : (extent : Size) → Admits s extent false None → JudgesWalked w s b t n r → JudgesEnds w s b extent (insert t n) (inserted (line_of b.line) b.line.pos t n) (b.line.pos + n * length t) r
    insert-judged extent admits judged =
        let a = needs-none admits in
        let z = needs-none a.1 in
        record {
          refuses = λ sound v. inr (a.0, inr (z.0, needs-map (needs-map (λ h. inr (tt, h))) (judged z.0.1 sound).refuses));
          tells = λ sound. (judged z.0.1 sound).tells;
        }
