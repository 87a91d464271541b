-- Pages whose texts are good and whose block fits the window, and that acts keep them so.
use Rattle.std.proofs.Common.{◌≡◌, ℕ, ◌+◌, ◌<◌, ◌≤◌, false, ltb, ◌⊎◌, List, [], ◌++◌, take, drop, Some, None, Option, sym, refl, ap, ◌∙◌, subst, inl, inr, append_assoc, arith}
use Rattle.page.proofs.Showing.{Fit, back_text}
use Rattle.page.proofs.Spelt.{cut-decodes, good-decodes}
use Rattle.page.specs.Acts.{Replies, fitted, hinted, noted, settled}
use Rattle.page.specs.Page.{Page, end_row, note_text}
use Rattle.page.specs.Rules.{AtBoundary}
use Rattle.screen.specs.Screen.{Geometry, block, place_row}
use Rattle.std.proofs.lemmas.Bool.{cases_lt, cond_both, ltb-true}
use Rattle.std.proofs.lemmas.Str.{chars-nil}
use Rattle.std.specs.Str.{chars}
use Rattle.text.proofs.Spelling.{all-good-append}
use Rattle.text.specs.Characters.{AllGood}
use Rattle.text.specs.Texts.{GoodText}

module _ (d : Geometry) (prompt : List ℕ) where
  pub record Proper (p : Page) : Type 0 where
    pub line : GoodText p.line
    pub place : AtBoundary p.line p.pos
    pub note : (t : List ℕ) → p.note ≡ Some t → GoodText t
    pub hint : (t : List ℕ) → p.hint ≡ Some t → GoodText t × (place_row d (block d (prompt ++ (chars p.line ++ chars t))) < d.rows)
    pub low : end_row d prompt p < d.rows
    pub shown : p.window ≤ p.base
    pub tall : p.base + end_row d prompt p < p.window + d.rows
    pub live : p.ended ≡ false

  note-good : (o : Option (List ℕ)) → ((t : List ℕ) → o ≡ Some t → GoodText t) → AllGood (note_text o)
  note-good None h = tt
  note-good (Some t) h = good-decodes t (h t refl)

  pub fit : AllGood prompt → (p : Page) → Proper p → Fit d prompt p
  fit g p w = record {
    parts = ap (λ (x : List ℕ). prompt ++ (x ++ note_text p.note)) (cut-decodes p.line p.pos w.place)
        ∙ ap (λ (x : List ℕ). prompt ++ x) (append_assoc (chars (take p.pos p.line)) (chars (drop p.pos p.line)) (note_text p.note))
        ∙ sym (append_assoc prompt (chars (take p.pos p.line)) (back_text p));
    good = all-good-append prompt (chars p.line ++ note_text p.note) g (all-good-append (chars p.line) (note_text p.note) (good-decodes p.line w.line) (note-good p.note w.note));
    low = w.low;
    shown = w.shown;
    tall = w.tall;
    live = w.live;
  }

  -- a page before its window follows
  pub record Ready-page (p : Page) : Type 0 where
    pub line : GoodText p.line
    pub place : AtBoundary p.line p.pos
    pub note : (t : List ℕ) → p.note ≡ Some t → GoodText t
    pub hint : (t : List ℕ) → p.hint ≡ Some t → GoodText t × (place_row d (block d (prompt ++ (chars p.line ++ chars t))) < d.rows)
    pub low : end_row d prompt p < d.rows
    pub shown : p.window ≤ p.base
    pub live : p.ended ≡ false

  pub settled-proper : (p : Page) → Ready-page p → Proper (settled d prompt p)
  settled-proper p w =
      let l = w.low in let s = w.shown in
      record { line = w.line; place = w.place; note = w.note; hint = w.hint; low = w.low; shown = omega arith; tall = omega arith; live = w.live }

  -- the line alone, with no note
  abbrev pub Bare-low : List ℕ → Type 0
  Bare-low line = place_row d (block d (prompt ++ (chars line ++ []))) < d.rows

  pub record Fitted (line : List ℕ) (o : Option (List ℕ)) : Type 0 where
    pub good : (t : List ℕ) → o ≡ Some t → GoodText t × (place_row d (block d (prompt ++ (chars line ++ chars t))) < d.rows)
    pub low : place_row d (block d (prompt ++ (chars line ++ note_text o))) < d.rows

  fitted_none : (line : List ℕ) → Bare-low line → Fitted line None
  fitted_none line l = record { good = λ t e. absurd (none-some t e); low = l }
    where
      none-some : (t : List ℕ) → None ≡ Some t → ⊥
      none-some t e = let z : ◌≡◌ {A = ℕ} 0 1 = cc in omega arith

  fitted-some : (line t : List ℕ) → GoodText t → place_row d (block d (prompt ++ (chars line ++ chars t))) < d.rows → Fitted line (Some t)
  fitted-some line t g l = record { good = λ u e. subst (λ (x : List ℕ). GoodText x × (place_row d (block d (prompt ++ (chars line ++ chars x))) < d.rows)) (same t u e) (g, l); low = l }
    where
      same : (t u : List ℕ) → Some t ≡ Some u → t ≡ u
      same t u e = cc

  pub fitted-is : (line : List ℕ) (o : Option (List ℕ)) → ((t : List ℕ) → o ≡ Some t → GoodText t) → Bare-low line → Fitted line (fitted d prompt line o)
  fitted-is line None g l = fitted_none line l
  fitted-is line (Some t) g l =
      cond_both (ltb (place_row d (block d (prompt ++ (chars line ++ chars t)))) d.rows) (Some t) None (Fitted line)
      (λ e. fitted-some line t (g t refl) (ltb-true (place_row d (block d (prompt ++ (chars line ++ chars t)))) d.rows e))
      (λ e. fitted_none line l)

  -- the line drawn anew with a hint
  pub hinted-proper : (r : Replies) (p : Page) → ((t : List ℕ) → r.hint ≡ Some t → GoodText t) → GoodText p.line → AtBoundary p.line p.pos → Bare-low p.line → p.window ≤ p.base → p.ended ≡ false → Proper (hinted d prompt r p)
  hinted-proper r p g l b low shown live =
      let f = fitted-is p.line r.hint g low in
      settled-proper (noted d prompt (fitted d prompt p.line r.hint) (fitted d prompt p.line r.hint) r.yes p)
      (record { line = l; place = b; note = λ t e. (f.good t e).0; hint = f.good; low = f.low; shown = shown; live = live })
