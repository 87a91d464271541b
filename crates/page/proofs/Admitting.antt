-- What holds where no rule refuses an act, and the page that follows it.
use Rattle.std.proofs.Common.{◌≡◌, ℕ, ◌<◌, ◌≤◌, Bool, true, false, cond, not, ◌&&◌, ◌||◌, ◌⊎◌, List, [], ◌++◌, Some, None, Option, sym, refl, ap, ◌∙◌, subst, inl, inr, le_refl, arith}
use borrow.Author.Tests.{clash}
use Rattle.page.proofs.Needing.{needs-none}
use Rattle.page.proofs.Propriety.{Bare-low, Proper, hinted-proper, settled-proper}
use Rattle.page.proofs.Spelt.{good_none, insert-boundary, insert-good, one-good}
use Rattle.page.specs.Acts.{Act, Replies, clear, closed, create, edited, finish, go, insert, line_after, message, noted, notice, page_after, pos_after, printed, raised, refresh, set, settled, started, stays}
use Rattle.page.specs.Page.{Page, note_text}
use Rattle.page.specs.Rules.{HeightFine, LengthFine, PlaceFine, Refuses, TextFine, mends}
use Rattle.screen.specs.Screen.{Geometry, Screen, block, place_row}
use Rattle.std.proofs.lemmas.Bool.{cond_both}
use Rattle.std.proofs.lemmas.Str.{chars-nil, IsUtf8-nil}
use Rattle.std.specs.Str.{chars}
use Rattle.text.specs.Texts.{GoodText}
use Rattle.text.specs.declared.refusal.Refusal.{Refusal}
use Rattle.text.specs.declared.refusal.Refusal.TheVariants.{Torn}

pub some-none : {A B : Type 0} {x : A} → ◌≡◌ {A = Option A} None (Some x) → B
some-none {A} {B} {x} e = absurd (let z : ◌≡◌ {A = ℕ} 0 1 = cc in omega arith)

needs-met : {Q P R : Type 0} → Q → ((Q → ⊥) × P) ⊎ (Q × R) → R
needs-met q (inl x) = absurd (x.0 q)
needs-met q (inr x) = x.1

needs-unmet : {Q P R : Type 0} → (Q → ⊥) → ((Q → ⊥) × P) ⊎ (Q × R) → P
needs-unmet n (inl x) = x.1
needs-unmet n (inr x) = absurd (n x.0)

-- every need is met
pub record Admitted (d : Geometry) (prompt : List ℕ) (torn : Bool) (SizeFine : Type 0) (a : Act) (p : Page) : Type 0 where
  pub untorn : (torn && not (mends a)) ≡ false
  pub size : SizeFine
  pub text : TextFine a
  pub short : LengthFine a p
  pub place : PlaceFine a p
  pub height : HeightFine d prompt a p

pub admitted : (d : Geometry) (prompt : List ℕ) (torn : Bool) (SizeFine : Type 0) (a : Act) (p : Page) → Refuses d prompt torn SizeFine a p None → Admitted d prompt torn SizeFine a p
admitted d prompt torn SizeFine a p h =
    let x7 = needs-none h in
    let x1 = needs-none x7.1 in
    let x3 = needs-none x1.1 in
    let x4 = needs-none x3.1 in
    let x5 = needs-none x4.1 in
    let x6 = needs-none x5.1 in
    record { untorn = x7.0; size = x1.0; text = x3.0; short = x4.0; place = x5.0; height = x6.0 }

-- an act whose needs are met is not refused
pub unrefused : (d : Geometry) (prompt : List ℕ) (torn : Bool) (SizeFine : Type 0) (a : Act) (p : Page) (r : Option Refusal) → Admitted d prompt torn SizeFine a p → Refuses d prompt torn SizeFine a p r → r ≡ None
unrefused d prompt torn SizeFine a p r m h = needs-met m.height (needs-met m.place (needs-met m.short (needs-met m.text (needs-met m.size (needs-met m.untorn h)))))

-- a torn session refuses every act that does not mend it
pub torn-refused : (d : Geometry) (prompt : List ℕ) (torn : Bool) (SizeFine : Type 0) (a : Act) (p : Page) (r : Option Refusal) → torn ≡ true → mends a ≡ false → Refuses d prompt torn SizeFine a p r → r ≡ Some Torn
torn-refused d prompt torn SizeFine a p r t k h = needs-unmet (λ e. clash (sym e ∙ ap (λ b. b && not (mends a)) t ∙ ap not k)) h

module _ (d : Geometry) (prompt : List ℕ) where
  low-line : (line : List ℕ) → place_row d (block d (prompt ++ (chars line ++ chars []))) < d.rows → Bare-low d prompt line
  low-line line h = subst (λ (x : List ℕ). place_row d (block d (prompt ++ (chars line ++ x))) < d.rows) chars-nil h

  -- a line without its note is not lower than with it
  pub record Lived-page (p : Page) : Type 0 where
    pub proper : Proper d prompt p
    pub bare : Bare-low d prompt p.line

  -- the page after each act but create and an accepted finish
  pub after-proper : (s : Screen) (a : Act) (r : Replies) (ok : Bool) (p : Page) → ((a ≡ create) → ⊥) → (a ≡ finish → ok ≡ false) → ((t : List ℕ) → r.hint ≡ Some t → GoodText t)
      → TextFine a → PlaceFine a p → HeightFine d prompt a p → Lived-page p → Lived-page (page_after d prompt s a r ok p)
  after-proper s create r ok p nc nf g tf pf hf w = absurd (nc refl)
  after-proper s (insert c n) r ok p nc nf g tf pf hf w =
      let t = one-good c tf in let q = w.proper in
      record { proper = hinted-proper d prompt r (edited d prompt (line_after (insert c n) p) (pos_after (insert c n) p) p) g (insert-good p.line c p.pos n q.line q.place t) (insert-boundary p.line c p.pos n q.line q.place t) (low-line (line_after (insert c n) p) hf) q.shown q.live; bare = low-line (line_after (insert c n) p) hf }
  after-proper s (set l x) r ok p nc nf g tf pf hf w =
      let q = w.proper in
      record { proper = hinted-proper d prompt r (edited d prompt l x p) g tf pf (low-line l hf) q.shown q.live; bare = low-line l hf }
  after-proper s (go x) r ok p nc nf g tf pf hf w =
      let q = w.proper in
      let e = edited d prompt p.line x p in
      record {
        proper = cond_both (stays d prompt p e) e _ (Proper d prompt) (λ t. record { line = q.line; place = pf; note = q.note; hint = q.hint; low = q.low; shown = q.shown; tall = q.tall; live = q.live })
            (λ t. cond_both (r.yes || p.lit) (settled d prompt (noted d prompt None e.hint r.yes e)) (noted d prompt e.note e.hint r.yes e) (Proper d prompt)
            (λ u. settled-proper d prompt (noted d prompt None e.hint r.yes e) (record { line = q.line; place = pf; note = λ t e. some-none e; hint = q.hint; low = w.bare; shown = q.shown; live = q.live }))
            (λ u. record { line = q.line; place = pf; note = q.note; hint = q.hint; low = q.low; shown = q.shown; tall = q.tall; live = q.live }));
        bare = cond_both (stays d prompt p e) e _ (λ (y : Page). Bare-low d prompt y.line) (λ t. w.bare) (λ t. cond_both (r.yes || p.lit) (settled d prompt (noted d prompt None e.hint r.yes e)) (noted d prompt e.note e.hint r.yes e) (λ (y : Page). Bare-low d prompt y.line) (λ u. w.bare) (λ u. w.bare));
      }
  after-proper s refresh r ok p nc nf g tf pf hf w =
      let q = w.proper in
      record { proper = hinted-proper d prompt r p g q.line q.place w.bare q.shown q.live; bare = w.bare }
  after-proper s (message t) r ok p nc nf g tf pf hf w =
      let q = w.proper in
      record { proper = settled-proper d prompt (noted d prompt (Some t) None r.yes p) (record { line = q.line; place = q.place; note = λ u e. subst GoodText (same t u e) tf; hint = λ u e. some-none e; low = hf; shown = q.shown; live = q.live }); bare = w.bare }
    where
      same : (t u : List ℕ) → Some t ≡ Some u → t ≡ u
      same t u e = cc
  after-proper s (notice t) r ok p nc nf g tf pf hf w =
      let q = w.proper in
      let sh = q.shown in
      record { proper = settled-proper d prompt (noted d prompt p.hint p.hint p.lit (printed d prompt t p)) (record { line = q.line; place = q.place; note = λ u e. (q.hint u e).0; hint = q.hint; low = hint-low p.hint q.hint; shown = omega arith; live = q.live }); bare = w.bare }
    where
      hint-low : (o : Option (List ℕ)) → ((t : List ℕ) → o ≡ Some t → GoodText t × (place_row d (block d (prompt ++ (chars p.line ++ chars t))) < d.rows)) → place_row d (block d (prompt ++ (chars p.line ++ note_text o))) < d.rows
      hint-low None h = w.bare
      hint-low (Some t) h = (h t refl).1
  after-proper s clear r ok p nc nf g tf pf hf w =
      let q = w.proper in
      record { proper = hinted-proper d prompt r (raised d prompt s.pen.paper s.top s.top p) g q.line q.place w.bare (le_refl s.top) q.live; bare = w.bare }
  after-proper s finish r ok p nc nf g tf pf hf w = subst (λ (y : Page). Lived-page y) (sym (ap (λ b. cond b (closed d prompt p) p) (nf refl))) w

  -- the first page
  pub created-proper : (s : Screen) (r : Replies) (ok : Bool) (p : Page) → ((t : List ℕ) → r.hint ≡ Some t → GoodText t) → HeightFine d prompt create p → s.top ≤ s.pen.row → Lived-page (page_after d prompt s create r ok p)
  created-proper s r ok p g hf above =
      record { proper = hinted-proper d prompt r (started d prompt s) g good_none (omega arith, IsUtf8-nil) (low-line [] hf) above refl; bare = low-line [] hf }
