-- A go to another edit position: from what was judged, asked and written to the act.
use Rattle.std.proofs.Common.{◌≡◌, ℕ, ◌<◌, ◌≤◌, Bool, true, false, cond, not, ◌&&◌, ◌||◌, eqb, ltb, leb, ◌⊎◌, List, [], ◌∷◌, ◌++◌, take, drop, is_err, Some, None, Ok, Err, Option, Result, sym, refl, ap, ◌∙◌, subst, inl, inr, append_assoc, arith}
use Rattle.judging.specs.Fitting.{LaidOut}
use Rattle.judging.specs.Judgements.{Low}
use Rattle.layout.specs.Laying.{Moved}
use Rattle.layout.specs.declared.block.Layout.{Layout}
use Rattle.layout.specs.declared.layout.Position.{Position}
use Rattle.lines.proofs.Notes.{note-text}
use Rattle.lines.proofs.Rules.{place-once}
use Rattle.lines.specs.Lines.{Changes, Holds, line_of, PlaceRule}
use Rattle.lines.specs.Notes.{note_of}
use Rattle.lines.specs.declared.line_buffer.LineBuffer.{LineBuffer}
use Rattle.lines.specs.declared.note.Note.{Note}
use Rattle.page.proofs.Admitting.{Admitted, admitted, some-none}
use Rattle.page.proofs.Spelt.{cut-decodes, good-cut, good-decodes, good_none}
use Rattle.page.specs.Acts.{Replies, edited, go, noted, settled, stays}
use Rattle.page.specs.Law.{Heeds, Moment, World, Written, done}
use Rattle.page.specs.Output.{move_page, redraw}
use Rattle.page.specs.Page.{Page, note_text}
use Rattle.page.specs.Rules.{Outcome}
use Rattle.page.specs.declared.outcome.BrokenAct.{BrokenAct}
use Rattle.page.specs.declared.outcome.Rejection.TheVariants.{Refused}
use Rattle.screen.proofs.Heights.{place-col}
use Rattle.screen.specs.Output.{move_bytes}
use Rattle.screen.specs.Places.{place_of}
use Rattle.screen.specs.Screen.{Geometry, blank_paper, block, place_col, place_row}
use Rattle.session.proofs.Acting.{WentBuffered, refused-acted, went-acted}
use Rattle.session.proofs.Heights.{front_low, line-good, open-shown, tall-never}
use Rattle.session.proofs.Painting.{answers, painted-layout, painted-settings, painted-sound, painted-went, view_painted}
use Rattle.session.proofs.Redrawing.{drawn-layout, drawn-lit, drawn-settings, drawn-torn, low-bare}
use Rattle.session.specs.Acting.{Acted, outcome_of, state_of}
use Rattle.session.specs.Asking.{with_lit}
use Rattle.session.specs.Buffering.{buffer_of, redrawing}
use Rattle.session.specs.Going.{Bared, CursorAt, Follows, LaysBare, MovesCursor, Shifted, with_line, with_note}
use Rattle.session.specs.Judging.{JudgesAct}
use Rattle.session.specs.Painting.{drawn_to}
use Rattle.session.specs.Sessions.{Shown, Sound, Stands, State, View, is_torn, moment_of, page_of, prompt_of, settings_of}
use Rattle.session.specs.declared.session.Session.{Session}
use Rattle.session.specs.declared.standing.Standing.{Standing}
use Rattle.session.specs.declared.standing.Standing.TheVariants as standing
use Rattle.session.specs.declared.tables.Tables.{Tables}
use Rattle.std.proofs.lemmas.Bool.{and_from, and_parts, and_right, cases_Bool, cond-false, cond-true, eq-eqb, eqb-true, false≢true, le-leb, lt-ltb, true≢false}
use Rattle.std.specs.Str.{chars}
use Rattle.terminal.specs.Windows.{geometry}
use Rattle.text.proofs.Spelling.{all-good-append}
use Rattle.text.specs.Characters.{AllGood}
use Rattle.text.specs.declared.refusal.Refusal.{Refusal}

not-torn : (k : Bool) → (k && true) ≡ false → k ≡ false
not-torn true e = e
not-torn false e = e

-- other tables with the same prompt, where the block is on the screen
stands-open : (d : Geometry) (b c : Tables) (l : Layout) (st : Standing) → is_torn st ≡ false → (d.rows ≤ place_row d (block d (prompt_of b)) → ⊥) → Stands d b l st → Shown d (prompt_of c) (line_of c.line) c.line.pos (note_of c.note) (note_of c.hint) l → Stands d c l st
stands-open d b c l standing.Tall t n h x = absurd (n h)
stands-open d b c l standing.Open t n h x = x
stands-open d b c l standing.Torn t n h x = absurd (true≢false t)

-- what a note holds is good
noted-good : (n : Note) (o : Option (List ℕ)) → note_of n ≡ o → AllGood (note_text o)
noted-good n None e = tt
noted-good n (Some t) e = good-decodes t (note-text n t e).good

-- two places that are not one differ in a row or a column
pub places-apart : (a b c d : ℕ) → (c ≡ a → d ≡ b → ⊥) → (eqb a c && eqb b d) ≡ false
places-apart a b c d h = by (cases_Bool (eqb a c && eqb b d))
  where
    by : ((eqb a c && eqb b d) ≡ true) ⊎ ((eqb a c && eqb b d) ≡ false) → (eqb a c && eqb b d) ≡ false
    by (inl e) = let parts = and_parts (eqb a c) (eqb b d) e in absurd (h (sym (eqb-true a c parts.0)) (sym (eqb-true b d parts.1)))
    by (inr e) = e

module _ {T H : Type 0} (w : World T H) (x : State T H) (pos : ℕ) where
  abbrev s : Session
  s = x.session

  abbrev b : Tables
  b = x.tables

  abbrev d : Geometry
  d = geometry w.columns s.size

  abbrev ps : List ℕ
  ps = prompt_of b

  abbrev ln : List ℕ
  ln = line_of b.line

  abbrev Belongs : Type 0
  Belongs = Sound w.columns s b

  abbrev Judged : Result Unit Refusal → Type 0
  Judged r = JudgesAct w.columns s b (w.extent x.terminal) (go pos) (λ _. Unit {0}) r

  abbrev anywhere : View
  anywhere = record { upper = blank_paper; base = 0; window = 0 }

  -- a judgement that refuses
  pub go-refused : (e : Refusal) → Judged (Err e) → Acted w x (go pos) (Err (Refused e)) x
  go-refused e j = refused-acted w x (go pos) e j.refuses

  module _ (u : Unit {0}) (j : Judged (Ok u)) where
    fine : Belongs → (v : View) → Admitted d ps (is_torn s.standing) ((w.extent x.terminal ≡ s.size) × (s.begun ≡ s.size)) (go pos) (page_of s b v)
    fine sound v = admitted d ps (is_torn s.standing) ((w.extent x.terminal ≡ s.size) × (s.begun ≡ s.size)) (go pos) (page_of s b v) (j.refuses sound v)

    -- a position that is refused although the judgement accepted it
    pub go-unset : (e : Refusal) (n : LineBuffer) → Changes (PlaceRule ln pos) ln pos b.line (Err e) n → Acted w x (go pos) (Err (Refused e)) (state_of x.terminal x.highlighter s (with_line n b))
    go-unset e n ch =
        subst (λ (m : LineBuffer). Acted w x (go pos) (Err (Refused e)) (state_of x.terminal x.highlighter s (with_line m b))) (sym ch.1)
        (refused-acted w x (go pos) e (λ sound v. absurd (place-once ln pos e (inr ((fine sound v).place, refl)) ch.0)))

    untorn : Belongs → is_torn s.standing ≡ false
    untorn sound = not-torn (is_torn s.standing) (fine sound anywhere).untorn

    low : Belongs → Low d ps ln []
    low sound = (fine sound anywhere).height

    never-tall : Belongs → d.rows ≤ place_row d (block d ps) → ⊥
    never-tall sound tall = tall-never w.columns s.size ps ln [] (line-good b) good_none tall (low sound)

    was : Belongs → Shown d ps ln b.line.pos (note_of b.note) (note_of b.hint) s.layout
    was sound = open-shown w.columns s.size ps b s.layout s.standing (sound.stands (fine sound anywhere).size.1) (untorn sound) (never-tall sound)

    -- the position is taken, and a place is its
    module _ (k : Unit {0}) (n : LineBuffer) (ch : Changes (PlaceRule ln pos) ln pos b.line (Ok k) n) (place : Position) (at : CursorAt w.columns s.prompt s.size n place) where
      held : Holds ln pos n
      held = ch.1

      place_is : Belongs → place ≡ place_of d (block d (ps ++ chars (take pos ln)))
      place_is sound = at ps sound.prompt ∙ (λ i. place_of d (block d (ps ++ chars (take (held.1 i) (held.0 i)))))

      abbrev page_now : View → Page
      page_now v = page_of s b v

      abbrev page_then : View → Page
      page_then v = edited d ps ln pos (page_now v)

      -- both places are one exactly where the layout's cursor is at the new place
      stays-is : Belongs → (v : View) → stays d ps (page_now v) (page_then v) ≡ (eqb s.layout.cursor.row place.row && eqb s.layout.cursor.col place.col)
      stays-is sound v i = eqb (sym (was sound).laid.cursor i).row (sym (place_is sound) i).row && eqb (sym (was sound).laid.cursor i).col (sym (place_is sound) i).col

      -- a layout with its cursor at the new place shows the same block
      shown-with : Belongs → (l : Layout) → l.prompt_size ≡ s.layout.prompt_size → l.cursor ≡ place → l.end ≡ s.layout.end → l.full ≡ s.layout.full → Shown d ps (line_of n) n.pos (note_of b.note) (note_of b.hint) l
      shown-with sound l p c e f =
          let a = was sound in
          let there : Shown d ps ln pos (note_of b.note) (note_of b.hint) l =
          record { line = a.line; hint = a.hint; whole = a.whole; laid = record { prompt = p ∙ a.laid.prompt; cursor = c ∙ place_is sound; end = e ∙ a.laid.end; full = f ∙ a.laid.full } } in
          subst (λ (q : ℕ). Shown d ps (line_of n) q (note_of b.note) (note_of b.hint) l) (sym held.1) (subst (λ (t : List ℕ). Shown d ps t pos (note_of b.note) (note_of b.hint) l) (sym held.0) there)

      -- the cursor is at its place already
      module _ (row : place.row ≡ s.layout.cursor.row) (col : place.col ≡ s.layout.cursor.col) where
        abbrev unmoved : State T H
        unmoved = state_of x.terminal x.highlighter s (with_line n b)

        same : s.layout.cursor ≡ place
        same i = record { col = sym col i; row = sym row i }

        stays-true : Belongs → (v : View) → stays d ps (page_now v) (page_then v) ≡ true
        stays-true sound v = stays-is sound v ∙ and_from (eqb s.layout.cursor.row place.row) (eqb s.layout.cursor.col place.col) (eq-eqb s.layout.cursor.row place.row (sym row)) (eq-eqb s.layout.cursor.col place.col (sym col))

        unmoved-sound : Belongs → Sound w.columns s (with_line n b)
        unmoved-sound sound = record {
          prompt = sound.prompt;
          stands = λ begun. stands-open d b (with_line n b) s.layout s.standing (untorn sound) (never-tall sound) (sound.stands begun) (shown-with sound s.layout refl same refl refl);
        }

        -- nobody is asked
        abbrev silent : Replies
        silent = record { hint = None; yes = false; prompt = []; line = []; note = [] }

        unmoved-moment : Belongs → (v : View) → moment_of unmoved v ≡ record { terminal = x.terminal; highlighter = x.highlighter; page = page_then v; torn = false }
        unmoved-moment sound v i = record {
          terminal = x.terminal;
          highlighter = x.highlighter;
          page = record { line = held.0 i; pos = held.1 i; note = note_of b.note; hint = note_of b.hint; lit = s.lit; upper = v.upper; base = v.base; window = v.window; ended = false };
          torn = untorn sound i;
        }

        unmoved-went : Belongs → (v : View) → WentBuffered w (settings_of s b) (moment_of x v) (go pos) (Ok tt) (buffer_of b) (buffer_of b) (moment_of unmoved v)
        unmoved-went sound v =
            let st = stays-true sound v in
            subst (λ (m : Moment T H). WentBuffered w (settings_of s b) (moment_of x v) (go pos) (Ok tt) (buffer_of b) (buffer_of b) m) (sym (unmoved-moment sound v)) (record {
              went = record {
                replies = silent;
                hint = refl;
                hint_fine = λ t e. some-none e;
                page = sym (cond-true (stays d ps (page_now v) (page_then v)) (page_then v) _ st);
                asks = subst (λ (q : Bool). cond q (x.highlighter ≡ x.highlighter) (Heeds w (settings_of s b) w.heeds_move x.highlighter ln pos false x.highlighter)) (sym st) refl;
                styled = λ e. absurd (false≢true (sym (ap (λ q. not q && (false || s.lit)) st) ∙ e));
                written = subst (λ (q : Bool). Written w.answered x.terminal (cond q [] (cond (false || s.lit) (redraw d ps s.holds silent (page_now v) (page_then v)) (move_page d ps (page_now v) (page_then v) ∷ []))) (Ok tt) x.terminal) (sym st) done;
                torn = refl;
              };
              buffer = sym (cond-true (stays d ps (page_now v) (page_then v)) (buffer_of b) (cond (false || s.lit) (redrawing d ps silent (page_now v) (page_then v)) (move_page d ps (page_now v) (page_then v))) st);
            })

        pub go-unmoved : Acted w x (go pos) (Ok tt) unmoved
        go-unmoved = went-acted w x unmoved (go pos) (Ok tt) refl (λ _. refl) unmoved-sound j.refuses (λ sound v. (v, unmoved-went sound v))

      -- the cursor goes to another place
      module _ (apart : (eqb s.layout.cursor.row place.row && eqb s.layout.cursor.col place.col) ≡ false) (r : Result Unit BrokenAct) (y : State T H) (m : MovesCursor w place (state_of x.terminal x.highlighter s (with_line n b)) r y) where
        abbrev lit : Bool
        lit = m.session.lit

        stays-false : Belongs → (v : View) → stays d ps (page_now v) (page_then v) ≡ false
        stays-false sound v = stays-is sound v ∙ apart

        lit-same : m.session ≡ with_lit lit s
        lit-same = m.asked.session

        heard : Heeds w (settings_of s b) w.heeds_move x.highlighter ln pos lit y.highlighter
        heard = subst (λ (q : ℕ). Heeds w (settings_of s b) w.heeds_move x.highlighter ln q lit y.highlighter) held.1 (subst (λ (t : List ℕ). Heeds w (settings_of s b) w.heeds_move x.highlighter t n.pos lit y.highlighter) held.0 m.asked.heard)

        asks : Belongs → (v : View) → cond (stays d ps (page_now v) (page_then v)) (y.highlighter ≡ x.highlighter) (Heeds w (settings_of s b) w.heeds_move x.highlighter ln pos lit y.highlighter)
        asks sound v = subst (λ (q : Bool). cond q (y.highlighter ≡ x.highlighter) (Heeds w (settings_of s b) w.heeds_move x.highlighter ln pos lit y.highlighter)) (sym (stays-false sound v)) heard

        -- with the line drawn anew
        module _ (anew : m.anew ≡ true) where
          bared : Bared w.answered w.columns (w.lights y.highlighter) (w.lights_prompt y.highlighter) (w.lights_hint y.highlighter) m.session (with_line n b) x.terminal r y.session y.tables y.terminal
          bared = m.drawn anew

          wanted : (lit || s.lit) ≡ true
          wanted = sym m.asked.anew ∙ anew

          bare-laid : Belongs → LaidOut d ps ln pos None bared.layout
          bare-laid sound =
              let lays : LaysBare w.columns s.prompt s.size n bared.layout = subst (λ (t : Session). LaysBare w.columns t.prompt t.size n bared.layout) lit-same bared.laid in
              let there = lays ps sound.prompt (subst (λ (t : List ℕ). Low d ps t []) (sym held.0) (low sound)) in
              subst (λ (q : ℕ). LaidOut d ps ln q None bared.layout) held.1 (subst (λ (t : List ℕ). LaidOut d ps t n.pos None bared.layout) held.0 there)

          bare-shown : Belongs → Shown d ps ln pos None (note_of b.hint) bared.layout
          bare-shown sound = record { line = low sound; hint = (was sound).hint; whole = low-bare d ps ln (low sound); laid = bare-laid sound }

          abbrev bare_replies : Replies
          bare_replies = answers w x y ln pos None (note_of b.hint) bared.layout m.session (with_note bared.note (with_line n b)) r lit-same held refl bared.dropped refl bared.paints

          abbrev page_bare : View → Page
          page_bare v = settled d ps (noted d ps None (note_of b.hint) lit (page_then v))

          abbrev page_kept : View → Page
          page_kept v = noted d ps (note_of b.note) (note_of b.hint) lit (page_then v)

          bare-page : Belongs → (v : View) → page_bare v ≡ cond (stays d ps (page_now v) (page_then v)) (page_then v) (cond (lit || s.lit) (page_bare v) (page_kept v))
          bare-page sound v = sym (cond-false (stays d ps (page_now v) (page_then v)) (page_then v) (cond (lit || s.lit) (page_bare v) (page_kept v)) (stays-false sound v) ∙ cond-true (lit || s.lit) (page_bare v) (page_kept v) wanted)

          abbrev bare_writes : View → List (List ℕ)
          bare_writes v = redraw d ps s.holds bare_replies (page_now v) (page_bare v)

          bare-writes : Belongs → (v : View) → bare_writes v ≡ cond (stays d ps (page_now v) (page_then v)) [] (cond (lit || s.lit) (bare_writes v) (move_page d ps (page_now v) (page_bare v) ∷ []))
          bare-writes sound v =
              sym (cond-false (stays d ps (page_now v) (page_then v)) [] (cond (lit || s.lit) (bare_writes v) (move_page d ps (page_now v) (page_bare v) ∷ [])) (stays-false sound v)
              ∙ cond-true (lit || s.lit) (bare_writes v) (move_page d ps (page_now v) (page_bare v) ∷ []) wanted)

          bare-buffer : Belongs → (v : View) → redrawing d ps bare_replies (page_now v) (page_bare v) ≡ cond (stays d ps (page_now v) (page_then v)) (buffer_of b) (cond (lit || s.lit) (redrawing d ps bare_replies (page_now v) (page_bare v)) (move_page d ps (page_now v) (page_bare v)))
          bare-buffer sound v =
              sym (cond-false (stays d ps (page_now v) (page_then v)) (buffer_of b) (cond (lit || s.lit) (redrawing d ps bare_replies (page_now v) (page_bare v)) (move_page d ps (page_now v) (page_bare v))) (stays-false sound v)
              ∙ cond-true (lit || s.lit) (redrawing d ps bare_replies (page_now v) (page_bare v)) (move_page d ps (page_now v) (page_bare v)) wanted)

          drawn-acted : Acted w x (go pos) (outcome_of r) y
          drawn-acted =
              went-acted w x y (go pos) r (painted-settings w x y ln pos None (note_of b.hint) bared.layout m.session (with_note bared.note (with_line n b)) r lit-same held refl bared.dropped refl bared.paints)
              (painted-layout w x y ln pos None (note_of b.hint) bared.layout m.session (with_note bared.note (with_line n b)) r lit-same held refl bared.dropped refl bared.paints)
              (λ sound. painted-sound w x y ln pos None (note_of b.hint) bared.layout m.session (with_note bared.note (with_line n b)) r lit-same held refl bared.dropped refl bared.paints sound (line-good b) (bare-shown sound))
              j.refuses
              (λ sound v. (
                view_painted w x y ln pos None (note_of b.hint) bared.layout m.session (with_note bared.note (with_line n b)) r lit-same held refl bared.dropped refl bared.paints sound (line-good b) (bare-shown sound) (fine sound v).size.1 (untorn sound) v,
                painted-went w x y ln pos None (note_of b.hint) bared.layout m.session (with_note bared.note (with_line n b)) r lit-same held refl bared.dropped refl bared.paints sound (line-good b) (bare-shown sound) (fine sound v).size.1 (untorn sound) v
                    (go pos) refl (bare-page sound v) (asks sound v) (bare-writes sound v) (bare-buffer sound v),
              ))

        -- alone
        module _ (quiet : m.anew ≡ false) where
          shifted : Shifted w.answered place m.session (with_line n b) x.terminal r y.session y.tables y.terminal
          shifted = m.moved quiet

          unlit : (lit || s.lit) ≡ false
          unlit = sym m.asked.anew ∙ quiet

          abbrev after : Session
          after = drawn_to shifted.layout (with_lit lit s) r

          abbrev tables : Tables
          tables = record { prompt = b.prompt; line = n; note = b.note; hint = b.hint; renderer = y.tables.renderer }

          abbrev moved : State T H
          moved = state_of y.terminal y.highlighter after tables

          moved-is : y ≡ moved
          moved-is i = record {
            terminal = y.terminal;
            highlighter = y.highlighter;
            session = (shifted.session ∙ ap (λ (t : Session). drawn_to shifted.layout t r) lit-same) i;
            tables = record { prompt = shifted.prompt i; line = shifted.line i; note = shifted.note i; hint = shifted.hint i; renderer = y.tables.renderer };
          }

          follows : Follows s.layout place shifted.layout
          follows = subst (λ (t : Session). Follows t.layout place shifted.layout) lit-same shifted.follows

          -- the block holds the new place
          row_inside : Belongs → place.row ≤ s.layout.end.row
          row_inside sound =
              let cut = (fine sound anywhere).place in
              let parts = good-cut ln pos (line-good b) cut in
              let front = chars (take pos ln) in
              let rest = chars (drop pos ln) in
              let text = note_text (note_of b.note) in
              let p : place.row ≡ place_row d (block d (ps ++ chars (take pos ln))) = ap (λ (q : Position). q.row) (place_is sound) in
              let e : s.layout.end.row ≡ place_row d (block d (ps ++ (chars ln ++ note_text (note_of b.note)))) = ap (λ (q : Position). q.row) (was sound).laid.end in
              let h = front_low d (ps ++ front) (rest ++ text) (let k = s.size.wide in omega arith) (all-good-append rest text (good-decodes (drop pos ln) parts.1) (noted-good b.note (note_of b.note) refl)) in
              let f : place_row d (block d ((ps ++ chars (take pos ln)) ++ (chars (drop pos ln) ++ note_text (note_of b.note)))) ≡ place_row d (block d (ps ++ (chars ln ++ note_text (note_of b.note)))) =
              ap (λ (t : List ℕ). place_row d (block d t)) (append_assoc ps front (rest ++ text) ∙ ap (λ (t : List ℕ). ps ++ t) (sym (append_assoc front rest text) ∙ ap (λ (t : List ℕ). t ++ text) (sym (cut-decodes ln pos cut)))) in
              omega arith

          col-inside : Belongs → place.col < 500
          col-inside sound =
              let c : place.col ≡ place_col d (block d (ps ++ chars (take pos ln))) = ap (λ (q : Position). q.col) (place_is sound) in
              let h = place-col d (block d (ps ++ chars (take pos ln))) (let k = s.size.wide in omega arith) in
              let k = s.size.narrow in
              omega arith

          followed : Belongs → Moved s.layout place shifted.layout
          followed sound = follows.moved (and_from (leb place.row s.layout.end.row) (ltb place.col 500) (le-leb place.row s.layout.end.row (row_inside sound)) (lt-ltb place.col 500 (col-inside sound)))

          moved-shown : Belongs → Shown d ps (line_of n) n.pos (note_of b.note) (note_of b.hint) shifted.layout
          moved-shown sound = let f = followed sound in shown-with sound shifted.layout f.prompt f.cursor f.end f.full

          moved-sound : Belongs → Sound w.columns after tables
          moved-sound sound = by r
            where
              by : (q : Result Unit BrokenAct) → Sound w.columns (drawn_to shifted.layout (with_lit lit s) q) tables
              by (Ok k) = record { prompt = sound.prompt; stands = λ _. moved-shown sound }
              by (Err e) = record { prompt = sound.prompt; stands = λ _. (moved-shown sound).line }

          abbrev move_replies : Replies
          move_replies = record { hint = None; yes = lit; prompt = []; line = []; note = [] }

          abbrev page_anew : View → Page
          page_anew v = settled d ps (noted d ps None (note_of b.hint) lit (page_then v))

          abbrev page_moved : View → Page
          page_moved v = noted d ps (note_of b.note) (note_of b.hint) lit (page_then v)

          moved-moment : (v : View) → moment_of moved v ≡ record { terminal = y.terminal; highlighter = y.highlighter; page = page_moved v; torn = is_err r }
          moved-moment v i = record {
            terminal = y.terminal;
            highlighter = y.highlighter;
            page = record { line = held.0 i; pos = held.1 i; note = note_of b.note; hint = note_of b.hint; lit = drawn-lit shifted.layout (with_lit lit s) r i; upper = v.upper; base = v.base; window = v.window; ended = false };
            torn = drawn-torn shifted.layout (with_lit lit s) r i;
          }

          move-written : Belongs → (v : View) → Written w.answered x.terminal (move_page d ps (page_now v) (page_moved v) ∷ []) r y.terminal
          move-written sound v =
              subst (λ (q : Position). Written w.answered x.terminal (move_bytes (place_row d (block d (ps ++ chars (take b.line.pos ln)))) (place_col d (block d (ps ++ chars (take b.line.pos ln)))) q.row q.col ∷ []) r y.terminal) (place_is sound)
              (subst (λ (q : Position). Written w.answered x.terminal (move_bytes q.row q.col place.row place.col ∷ []) r y.terminal) (was sound).laid.cursor
              (subst (λ (t : Session). Written w.answered x.terminal (move_bytes t.layout.cursor.row t.layout.cursor.col place.row place.col ∷ []) r y.terminal) lit-same shifted.written))

          -- and it stands in the draw buffer
          move-bytes : Belongs → (v : View) → buffer_of y.tables ≡ move_page d ps (page_now v) (page_moved v)
          move-bytes sound v =
              shifted.bytes ∙ ap (λ (t : Session). move_bytes t.layout.cursor.row t.layout.cursor.col place.row place.col) lit-same
              ∙ ap (λ (q : Position). move_bytes q.row q.col place.row place.col) (was sound).laid.cursor
              ∙ ap (λ (q : Position). move_bytes (place_row d (block d (ps ++ chars (take b.line.pos ln)))) (place_col d (block d (ps ++ chars (take b.line.pos ln)))) q.row q.col) (place_is sound)

          abbrev move_anew : View → List (List ℕ)
          move_anew v = redraw d ps s.holds move_replies (page_now v) (page_moved v)

          abbrev buffer_anew : View → List ℕ
          buffer_anew v = redrawing d ps move_replies (page_now v) (page_moved v)

          moved-went : Belongs → (v : View) → WentBuffered w (settings_of s b) (moment_of x v) (go pos) r (buffer_of b) (buffer_of y.tables) (moment_of moved v)
          moved-went sound v =
              let st = stays-false sound v in
              subst (λ (t : Moment T H). WentBuffered w (settings_of s b) (moment_of x v) (go pos) r (buffer_of b) (buffer_of y.tables) t) (sym (moved-moment v)) (record {
                went = record {
                  replies = move_replies;
                  hint = refl;
                  hint_fine = λ t e. some-none e;
                  page = sym (cond-false (stays d ps (page_now v) (page_then v)) (page_then v) (cond (lit || s.lit) (page_anew v) (page_moved v)) st ∙ cond-false (lit || s.lit) (page_anew v) (page_moved v) unlit);
                  asks = asks sound v;
                  styled = λ e. absurd (false≢true (sym (and_right (not (stays d ps (page_now v) (page_then v))) (lit || s.lit) unlit) ∙ e));
                  written = subst (λ (ws : List (List ℕ)). Written w.answered x.terminal ws r y.terminal)
                      (sym (cond-false (stays d ps (page_now v) (page_then v)) [] (cond (lit || s.lit) (move_anew v) (move_page d ps (page_now v) (page_moved v) ∷ [])) st
                      ∙ cond-false (lit || s.lit) (move_anew v) (move_page d ps (page_now v) (page_moved v) ∷ []) unlit))
                      (move-written sound v);
                  torn = refl;
                };
                buffer = move-bytes sound v
                    ∙ sym (cond-false (stays d ps (page_now v) (page_then v)) (buffer_of b) (cond (lit || s.lit) (buffer_anew v) (move_page d ps (page_now v) (page_moved v))) st
                    ∙ cond-false (lit || s.lit) (buffer_anew v) (move_page d ps (page_now v) (page_moved v)) unlit);
              })

          shifted-acted : Acted w x (go pos) (outcome_of r) y
          shifted-acted =
              subst (λ (q : State T H). Acted w x (go pos) (outcome_of r) q) (sym moved-is)
              (went-acted w x moved (go pos) r (drawn-settings shifted.layout (with_lit lit s) tables r) (drawn-layout shifted.layout (with_lit lit s) r) moved-sound j.refuses (λ sound v. (v, moved-went sound v)))

        pub go-moved : (o : Outcome) → o ≡ outcome_of r → Acted w x (go pos) o y
        go-moved o ended = subst (λ (q : Outcome). Acted w x (go pos) q y) (sym ended) (by (cases_Bool m.anew))
          where
            by : (m.anew ≡ true) ⊎ (m.anew ≡ false) → Acted w x (go pos) (outcome_of r) y
            by (inl e) = drawn-acted e
            by (inr e) = shifted-acted e
