-- A character that stays in the cursor's row: the layout of the line with it.
use Rattle.std.proofs.Common.{◌≡◌, ℕ, ◌+◌, ◌*◌, ◌<◌, ◌≤◌, Bool, true, false, cond, ◌&&◌, eqb, ltb, List, [], ◌∷◌, ◌++◌, length, take, Some, None, Ok, Option, sym, refl, ap, ◌∙◌, subst, inr, append_assoc, append-nil, le_refl, arith, length-append}
use Rattle.judging.specs.Judgements.{Low, PlacedFor, inserted}
use Rattle.layout.proofs.GoodTexts.{walk_place-append}
use Rattle.layout.specs.Drawing.{step_place, walk_place}
use Rattle.layout.specs.Laying.{Ended, Ends}
use Rattle.layout.specs.Measuring.{at_end, behind, next_row}
use Rattle.layout.specs.declared.block.Layout.{Layout}
use Rattle.layout.specs.declared.layout.Position.{Position}
use Rattle.lines.proofs.Rules.{insert-fine}
use Rattle.lines.specs.Lines.{InsertRule, line_of}
use Rattle.lines.specs.Notes.{note_of}
use Rattle.measuring.proofs.Fitting.{fills, place_is}
use Rattle.page.proofs.Inserting.{brought, line-end, no_note}
use Rattle.page.proofs.Spelt.{good-decodes}
use Rattle.page.specs.Rules.{OneCharacter}
use Rattle.screen.specs.Places.{place_of, top_left}
use Rattle.screen.specs.Screen.{Geometry, block, full, place_row}
use Rattle.session.proofs.Heights.{line-good}
use Rattle.session.proofs.Locating.{shown}
use Rattle.session.specs.Locating.{JudgesWalked}
use Rattle.session.specs.Sessions.{Shown, Sound, prompt_of}
use Rattle.session.specs.Typing.{ColumnsOf, in_row}
use Rattle.session.specs.declared.session.Session.{Session}
use Rattle.session.specs.declared.standing.Standing.TheVariants.{Open}
use Rattle.session.specs.declared.tables.Tables.{Tables}
use Rattle.std.proofs.lemmas.Bool.{and_from, and_parts, cond-false, cond-true, eqb-true, lt-ltb, ltb-true, le-ltb, false≢true}
use Rattle.std.proofs.lemmas.List.{take_all}
use Rattle.std.proofs.lemmas.Str.{chars-append, chars-nil}
use Rattle.std.specs.Option.{IsSome}
use Rattle.std.specs.Str.{chars}
use Rattle.terminal.specs.Windows.{geometry}
use Rattle.text.proofs.Spelling.{all-good-append, good-text-utf8}
use Rattle.text.specs.Characters.{AllGood, is_control}

-- what the test of the row tells
pub record InRow (s : Session) (b : Tables) (n width : ℕ) : Type 0 where
  pub end : b.line.pos ≡ length (line_of b.line)
  pub once : n ≡ 1
  pub wide : 0 < width
  pub within : s.layout.cursor.col + width < s.size.cols
  pub bare : note_of b.note ≡ None

pub in-row : (s : Session) (b : Tables) (n width : ℕ) → in_row s b n width ≡ true → InRow s b n width
in-row s b n width e =
    let a = and_parts (eqb b.line.pos (length (line_of b.line))) _ e in
    let k = and_parts (eqb n 1) _ a.1 in
    let c = and_parts (ltb 0 width) _ k.1 in
    let f = and_parts (ltb (s.layout.cursor.col + width) s.size.cols) _ c.1 in
    record {
      end = eqb-true b.line.pos (length (line_of b.line)) a.0;
      once = eqb-true n 1 k.0;
      wide = ltb-true 0 width c.0;
      within = ltb-true (s.layout.cursor.col + width) s.size.cols f.0;
      bare = no_note (note_of b.note) f.1;
    }

-- a character of some columns is no LF
no-lf : (w : ℕ → ℕ) (c : ℕ) → (is_control 10 ≡ true → w 10 ≡ 0) → 0 < w c → eqb c 10 ≡ false
no-lf w c controls wide = by (eqb c 10) refl
  where
    by : (l : Bool) → eqb c 10 ≡ l → eqb c 10 ≡ false
    by true e = absurd (let none : w c ≡ 0 = ap w (eqb-true c 10 e) ∙ controls refl in omega arith)
    by false e = e

zero-add : (k : ℕ) → k ≡ 0 + k
zero-add k = omega arith

-- a character drawn from a place, which stays in the row of the place that counts a full row as the next
step-stays : (w : ℕ → ℕ) (cols c width : ℕ) (p : Position) → eqb c 10 ≡ false → w c ≡ width → 0 < width → (at_end cols p).col + width < cols
    → step_place cols w c p ≡ record { col = (at_end cols p).col + width; row = (at_end cols p).row }
step-stays w cols c width p other is wide h =
    cond-false (eqb c 10) (next_row p) (behind cols (w c) p) other ∙ ap (λ (n : ℕ). behind cols n p) is ∙ by (eqb p.col cols) refl h
  where
    by : (f : Bool) → eqb p.col cols ≡ f → (cond f (next_row p) p).col + width < cols → behind cols width p ≡ record { col = (cond f (next_row p) p).col + width; row = (cond f (next_row p) p).row }
    by true e k = let at = eqb-true p.col cols e in cond-true (ltb cols (p.col + width)) _ _ (lt-ltb _ _ (omega (arith, at, wide))) ∙ (λ i. record { col = zero-add width i; row = p.row + 1 })
    by false e k = cond-false (ltb cols (p.col + width)) _ _ (le-ltb _ _ (omega (arith, k)))

-- a place in a row that is not full
not-full : (cols : ℕ) (p : Position) → p.col < cols → eqb p.col cols ≡ false
not-full cols p h = by (eqb p.col cols) refl
  where
    by : (f : Bool) → eqb p.col cols ≡ f → eqb p.col cols ≡ false
    by true e = absurd (let at = eqb-true p.col cols e in omega (arith, at, h))
    by false e = e

module _ (w : ℕ → ℕ) (narrow : (c : ℕ) → w c ≤ 2) (controls : (c : ℕ) → is_control c ≡ true → w c ≡ 0) (s : Session) (b : Tables) (t : List ℕ) (n width : ℕ)
    (row : InRow s b n width) (rule : InsertRule (line_of b.line) t n None) (columns : ColumnsOf w t width) where
  abbrev d : Geometry
  d = geometry w s.size

  abbrev ps : List ℕ
  ps = prompt_of b

  abbrev ln : List ℕ
  ln = line_of b.line

  abbrev new : List ℕ
  new = inserted ln b.line.pos t n

  abbrev pos : ℕ
  pos = b.line.pos + n * length t

  -- where the character ends
  abbrev pub place : Position
  place = record { col = s.layout.cursor.col + width; row = s.layout.cursor.row }

  fine : OneCharacter t × (length ln + n * length t ≤ 4096)
  fine = insert-fine ln t n rule

  abbrev char : ℕ
  char = (brought w t fine.0).char

  width-is : w char ≡ width
  width-is = let k = brought w t fine.0 in sym (columns fine.0 ∙ k.width)

  -- the text before, and with the character
  abbrev before : List ℕ
  before = ps ++ chars ln

  abbrev after : List ℕ
  after = before ++ (char ∷ [])

  longer : new ≡ ln ++ t
  longer = line-end ln t b.line.pos n row.end row.once

  new-chars : chars new ≡ chars ln ++ (char ∷ [])
  new-chars = ap chars longer ∙ chars-append ln t (good-text-utf8 ln (line-good b)) ∙ ap (λ (x : List ℕ). chars ln ++ x) (brought w t fine.0).chars

  pos-is : pos ≡ length new
  pos-is =
      (λ i. row.end i + row.once i * length t)
      ∙ (let one : length ln + 1 * length t ≡ length ln + length t = omega arith in one ∙ sym (length-append ln t) ∙ ap length (sym longer))

  all-new : ps ++ chars new ≡ after
  all-new = ap (λ (x : List ℕ). ps ++ x) new-chars ∙ sym (append_assoc ps (chars ln) (char ∷ []))

  front-new : ps ++ chars (take pos new) ≡ after
  front-new = ap (λ (x : List ℕ). ps ++ chars x) ((λ i. take (pos-is i) new) ∙ take_all (length new) new (le_refl (length new))) ∙ all-new

  whole-new : ps ++ (chars new ++ []) ≡ after
  whole-new = ap (λ (x : List ℕ). ps ++ x) (append-nil (chars new)) ∙ all-new

  front-old : ps ++ chars (take b.line.pos ln) ≡ before
  front-old = ap (λ (x : List ℕ). ps ++ chars x) (ap (λ k. take k ln) row.end ∙ take_all (length ln) ln (le_refl (length ln)))

  whole-old : ps ++ (chars ln ++ []) ≡ before
  whole-old = ap (λ (x : List ℕ). ps ++ x) (append-nil (chars ln))

  module _ (stands : s.standing ≡ Open) (begun : s.begun ≡ s.size) (sound : Sound w s b) where
    was : Shown d ps ln b.line.pos None (note_of b.hint) s.layout
    was = shown w narrow s b stands row.bare begun sound

    good-before : AllGood before
    good-before = all-good-append ps (chars ln) sound.prompt.good (good-decodes ln (line-good b))

    good-after : AllGood after
    good-after = all-good-append before (char ∷ []) good-before ((brought w t fine.0).good, tt)

    abbrev reached : Position
    reached = walk_place s.size.cols w before top_left

    cursor-is : s.layout.cursor ≡ at_end s.size.cols reached
    cursor-is = was.laid.cursor ∙ ap (λ (x : List ℕ). place_of d (block d x)) front-old ∙ sym (place_is w narrow s.size reached before good-before (λ i. reached))

    -- the character ends there
    place-reached : place ≡ walk_place s.size.cols w after top_left
    place-reached =
        let within : (at_end s.size.cols reached).col + width < s.size.cols = subst (λ (p : Position). p.col + width < s.size.cols) cursor-is row.within in
        let wide : 0 < w char = subst (λ (k : ℕ). 0 < k) (sym width-is) row.wide in
        ap (λ (p : Position). record { col = p.col + width; row = p.row }) cursor-is
        ∙ sym (step-stays w s.size.cols char width reached (no-lf w char (controls 10) wide) width-is row.wide within)
        ∙ sym (walk_place-append w s.size.cols before (char ∷ []) top_left)

    at-place : at_end s.size.cols place ≡ place
    at-place = ap (λ (f : Bool). cond f (next_row place) place) (not-full s.size.cols place row.within)

    drawn-at : place ≡ place_of d (block d after)
    drawn-at = sym at-place ∙ place_is w narrow s.size place after good-after place-reached

    low : Low d ps new []
    low =
        let rows : place_row d (block d before) < s.size.rows = subst (λ (x : List ℕ). place_row d (block d x) < s.size.rows) (ap (λ (x : List ℕ). ps ++ (chars ln ++ x)) chars-nil ∙ whole-old) was.line in
        let same : place_row d (block d after) ≡ place_row d (block d before) = sym (ap (λ (p : Position). p.row) drawn-at) ∙ ap (λ (p : Position). p.row) (was.laid.cursor ∙ ap (λ (x : List ℕ). place_of d (block d x)) front-old) in
        subst (λ (x : List ℕ). place_row d (block d x) < s.size.rows) (sym (ap (λ (x : List ℕ). ps ++ (chars new ++ x)) chars-nil ∙ whole-new)) (omega (arith, rows, same))

    placed : (l : Layout) → Ended s.layout place l → PlacedFor w s.size ps new pos (record { ends = record { cursor = place; end = place }; layout = l })
    placed l ended = record {
      ends = record {
        cursor = place-reached ∙ ap (λ (x : List ℕ). walk_place s.size.cols w x top_left) (sym front-new);
        end = place-reached ∙ ap (λ (x : List ℕ). walk_place s.size.cols w x top_left) (sym all-new);
        low = let a = s.layout.low in let o = s.layout.ordered in omega (arith, a, o);
      };
      laid = record {
        prompt = ended.prompt ∙ was.laid.prompt;
        cursor = ended.cursor ∙ drawn-at ∙ ap (λ (x : List ℕ). place_of d (block d x)) (sym front-new);
        end = ended.end ∙ drawn-at ∙ ap (λ (x : List ℕ). place_of d (block d x)) (sym whole-new);
        full = ended.full ∙ sym (not-full s.size.cols place row.within) ∙ fills w narrow s.size place after good-after place-reached ∙ ap (λ (x : List ℕ). full d (block d x)) (sym whole-new);
      };
    }

  pub typed-judged : (l : Layout) → Ended s.layout place l → s.standing ≡ Open → JudgesWalked w s b t n (Ok (record { ends = record { cursor = place; end = place }; layout = l }))
  typed-judged l ended stands begun sound = record { refuses = inr (fine.0, inr (fine.1, inr (low stands begun sound, refl))); tells = placed stands begun sound l ended }

-- a window holds the place
pub held-some : (s : Session) (b : Tables) (n width : ℕ) → InRow s b n width → (p : Position) → p ≡ s.layout.cursor → (r : Option Layout) → Ends s.layout (record { col = p.col + width; row = p.row }) r → IsSome r
held-some s b n width row p is (Some l) ends = refl
held-some s b n width row p is None ends =
    let a = s.layout.low in
    let o = s.layout.ordered in
    let h = row.within in
    let z = s.size.narrow in
    let low : s.layout.cursor.row < 200 = omega (arith, a, o) in
    let near : s.layout.cursor.col + width < 500 = omega (arith, h, z) in
    let both : (ltb p.row 200 && ltb (p.col + width) 500) ≡ true = subst (λ (q : Position). (ltb q.row 200 && ltb (q.col + width) 500) ≡ true) (sym is) (and_from (ltb s.layout.cursor.row 200) (ltb (s.layout.cursor.col + width) 500) (lt-ltb _ _ low) (lt-ltb _ _ near)) in
    absurd (false≢true (sym ends ∙ both))
