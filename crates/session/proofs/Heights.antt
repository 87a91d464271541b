-- What a session's standing tells of its height.
use Rattle.std.proofs.Common.{◌≡◌, ℕ, ◌<◌, ◌≤◌, false, List, [], ◌++◌, None, Ok, Err, Result, sym, refl, subst, inl, inr, arith}
use Rattle.judging.specs.Judgements.{Low, Tells}
use Rattle.layout.specs.declared.block.Layout.{Layout}
use Rattle.lines.specs.Lines.{line_of, PlaceRule}
use Rattle.lines.specs.Notes.{note_of}
use Rattle.page.proofs.Computing.{good-text}
use Rattle.page.proofs.Needing.{needs-none}
use Rattle.page.proofs.Spelt.{good-decodes, good_none}
use Rattle.page.specs.Acts.{finish, go}
use Rattle.page.specs.Rules.{Needs, NothingElse, refused_by}
use Rattle.screen.proofs.Heights.{draw-append, place-draw}
use Rattle.screen.specs.Screen.{Geometry, Pen, block, blank_pen, place_row}
use Rattle.session.specs.Admitting.{Admits, height_of}
use Rattle.session.specs.Judging.{JudgesAct}
use Rattle.session.specs.Sessions.{Shown, Sound, Stands, is_torn, prompt_of}
use Rattle.session.specs.declared.session.Session.{Session}
use Rattle.session.specs.declared.standing.Standing.{Standing}
use Rattle.session.specs.declared.standing.Standing.TheVariants as standing
use Rattle.session.specs.declared.tables.Tables.{Tables}
use Rattle.std.specs.Str.{chars}
use Rattle.terminal.specs.Windows.{geometry}
use Rattle.terminal.specs.declared.size.Size.{Size}
use Rattle.text.proofs.Spelling.{all-good-append}
use Rattle.text.specs.Characters.{AllGood}
use Rattle.text.specs.Texts.{GoodText}
use Rattle.text.specs.declared.refusal.Refusal.{Refusal}
use Rattle.text.specs.declared.refusal.Refusal.TheVariants as refusal

-- a text is not lower than its front
pub front_low : (d : Geometry) (ps xs : List ℕ) → 0 < d.cols → AllGood xs → place_row d (block d ps) ≤ place_row d (block d (ps ++ xs))
front_low d ps xs wide good = subst (λ (p : Pen). place_row d (block d ps) ≤ place_row d p) (sym (draw-append d ps xs blank_pen)) (place-draw d xs (block d ps) good wide)

-- the line of a session is good
pub line-good : (b : Tables) → GoodText (line_of b.line)
line-good b = good-text (line_of b.line) b.line.good

module _ (w : ℕ → ℕ) (z : Size) (ps : List ℕ) where
  -- a prompt that is too high leaves no room for a line
  pub tall-never : (line note : List ℕ) → GoodText line → GoodText note → z.rows ≤ place_row (geometry w z) (block (geometry w z) ps) → Low (geometry w z) ps line note → ⊥
  tall-never line note g n tall low =
      let h = front_low (geometry w z) ps (chars line ++ chars note) (let k = z.wide in omega arith) (all-good-append (chars line) (chars note) (good-decodes line g) (good-decodes note n)) in
      omega arith

  -- where neither torn nor too high, the block is on the screen
  pub open-shown : (b : Tables) (l : Layout) (st : Standing) → Stands (geometry w z) b l st → is_torn st ≡ false → (z.rows ≤ place_row (geometry w z) (block (geometry w z) (prompt_of b)) → ⊥)
      → Shown (geometry w z) (prompt_of b) (line_of b.line) b.line.pos (note_of b.note) (note_of b.hint) l
  open-shown b l standing.Tall h t n = absurd (n h)
  open-shown b l standing.Open h t n = h
  open-shown b l standing.Torn h t n = absurd (let q : ◌≡◌ {A = ℕ} 0 1 = cc in omega arith)

-- the height of a session's line by its standing
pub height-judged : (w : ℕ → ℕ) (s : Session) (b : Tables) → Sound w s b → s.begun ≡ s.size → Needs (Low (geometry w s.size) (prompt_of b) (line_of b.line) []) refusal.Tall NothingElse (refused_by (height_of s.standing))
height-judged w s b sound begun = by s.standing (sound.stands begun)
  where
    by : (st : Standing) → Stands (geometry w s.size) b s.layout st → Needs (Low (geometry w s.size) (prompt_of b) (line_of b.line) []) refusal.Tall NothingElse (refused_by (height_of st))
    by standing.Tall h = inl (tall-never w s.size (prompt_of b) (line_of b.line) [] (line-good b) good_none h, refl)
    by standing.Open h = inr (h.line, refl)
    by standing.Torn h = inr (h, refl)

module _ (w : ℕ → ℕ) (s : Session) (b : Tables) (extent : Size) (r : Result Unit Refusal) (height : r ≡ height_of s.standing) (admits : Admits s extent false None) where
  begun-same : s.begun ≡ s.size
  begun-same = (needs-none (needs-none admits).1).0.1

  judged : Sound w s b → Needs (Low (geometry w s.size) (prompt_of b) (line_of b.line) []) refusal.Tall NothingElse (refused_by r)
  judged sound = subst (λ (x : Result Unit Refusal). Needs (Low (geometry w s.size) (prompt_of b) (line_of b.line) []) refusal.Tall NothingElse (refused_by x)) (sym height) (height-judged w s b sound begun-same)

  pub finish-judged : JudgesAct w s b extent finish (λ _. Unit {0}) r
  finish-judged = record {
    refuses = λ sound v. let a = needs-none admits in inr (a.0, inr ((needs-none a.1).0, inr (tt, inr (tt, inr (tt, judged sound)))));
    tells = λ sound. tells r;
  }
    where
      tells : (x : Result Unit Refusal) → Tells (λ _. Unit {0}) x
      tells (Ok u) = tt
      tells (Err e) = tt

  pub go-judged : (pos : ℕ) → PlaceRule (line_of b.line) pos None → JudgesAct w s b extent (go pos) (λ _. Unit {0}) r
  go-judged pos fine = record {
    refuses = λ sound v. let a = needs-none admits in inr (a.0, inr ((needs-none a.1).0, inr (tt, inr (tt, inr ((needs-none fine).0, judged sound)))));
    tells = λ sound. tells r;
  }
    where
      tells : (x : Result Unit Refusal) → Tells (λ _. Unit {0}) x
      tells (Ok u) = tt
      tells (Err e) = tt
