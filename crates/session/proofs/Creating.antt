-- A create: the first step of a run.
use Rattle.std.proofs.Common.{◌≡◌, ℕ, ◌<◌, ◌≤◌, false, List, [], ◌∷◌, ◌++◌, Some, Ok, Err, Result, sym, refl, ap, ◌∙◌, subst, inl, inr, ⊎_elim, append-nil, arith}
use Rattle.judging.specs.Judgements.{Behind, JudgesLine, Low, PlacedFor}
use Rattle.layout.specs.Laying.{LaidAs, corner}
use Rattle.layout.specs.declared.block.Layout.{Layout}
use Rattle.lines.specs.Lines.{line_of}
use Rattle.lines.specs.Prompts.{raw_of, styled_of, visible_of}
use Rattle.lines.specs.declared.prompt.Prompt.{Prompt}
use Rattle.judging.specs.declared.judging.Placed.{Placed}
use Rattle.page.proofs.Needing.{needs-holds, nothing-some}
use Rattle.page.proofs.Spelt.{good_none}
use Rattle.page.specs.Acts.{Replies, create, started}
use Rattle.page.specs.Law.{Moment, Refusing, Settings, SizeFine, World, Written}
use Rattle.page.specs.Output.{draw_page, first_page, framed}
use Rattle.page.specs.Page.{Page}
use Rattle.page.specs.Rules.{Outcome, Needs, NothingElse}
use Rattle.page.specs.Runs.{beginning}
use Rattle.page.specs.declared.outcome.BrokenAct.{BrokenAct}
use Rattle.page.specs.declared.outcome.Rejection.TheVariants.{Refused}
use Rattle.render.specs.Composing.{composed}
use Rattle.screen.specs.Screen.{Geometry, blank_paper, block, place_row}
use Rattle.session.proofs.Acting.{WentBuffered, not-refused, outcome-err, stepped-went}
use Rattle.session.proofs.Redrawing.{bare_view, corner-erases, page_next, painted-left, redrawn-bytes, redrawn-heeds, redrawn-layout, redrawn-settings, redrawn-sound, redrawn-went, redrawn-written, replies}
use Rattle.session.specs.Acting.{outcome_of}
use Rattle.session.specs.Buffering.{Buffered, buffer_of, drawing}
use Rattle.session.specs.Creating.{Created, Fresh, settled_by}
use Rattle.session.specs.Painting.{laid_at}
use Rattle.session.specs.Refreshing.{Refreshed}
use Rattle.session.specs.Sessions.{Sound, Stands, State, View, is_torn, moment_of, prompt_of, settings_of}
use Rattle.session.specs.Tabled.{Begins}
use Rattle.session.specs.declared.setup.Setup.{Setup}
use Rattle.session.specs.declared.standing.Standing.{Standing}
use Rattle.session.specs.declared.tables.Tables.{Tables}
use Rattle.session.specs.declared.standing.Standing.TheVariants as standing
use Rattle.std.proofs.lemmas.Bool.{cases_lt}
use Rattle.std.proofs.lemmas.Str.{chars-nil, IsUtf8-nil}
use Rattle.std.specs.Str.{chars}
use Rattle.terminal.specs.Windows.{geometry}
use Rattle.terminal.specs.declared.size.Size.{Size}
use Rattle.text.specs.declared.refusal.Refusal.{Refusal}
use Rattle.text.specs.declared.refusal.Refusal.TheVariants as refusal

-- a prompt that is refused for its height is higher than the window
too-tall : (d : Geometry) (ps : List ℕ) (e : Refusal) → Needs (Low d ps [] []) refusal.Tall NothingElse (Some e) → d.rows ≤ place_row d (block d ps)
too-tall d ps e (inl n) = ⊎_elim (λ low. absurd (n.0 (subst (λ (t : List ℕ). place_row d (block d t) < d.rows) (sym same) low))) (λ tall. tall) (cases_lt (place_row d (block d ps)) d.rows)
  where
    same : ps ++ (chars [] ++ chars []) ≡ ps
    same = (λ i. ps ++ (chars-nil i ++ chars-nil i)) ∙ append-nil ps
too-tall d ps e (inr h) = absurd (nothing-some e h.1)

module _ {T H : Type 0} (w : World T H) (x : State T H) (setup : Setup) (b : Tables) (fresh : Fresh w.columns setup (w.extent x.terminal) x.session) (tabled : Begins setup.prompt b x.tables) where
  abbrev z : Settings
  z = settings_of x.session x.tables

  abbrev d : Geometry
  d = geometry w.columns x.session.size

  abbrev ps : List ℕ
  ps = prompt_of x.tables

  abbrev start : Moment T H
  start = beginning x.terminal x.highlighter

  settings-are : z ≡ settled_by setup (w.extent x.terminal)
  settings-are i = record { size = fresh.size i; begun = fresh.begun i; raw = raw_of (tabled.prompt i); styled = styled_of (tabled.prompt i); prompt = chars (visible_of (tabled.prompt i)); colours = fresh.colours i; holds = fresh.holds i }

  behind : Behind w.columns x.session.size ps x.session.prompt
  behind =
      subst (λ (q : Prompt). Behind w.columns x.session.size (chars (visible_of q)) x.session.prompt) (sym tabled.prompt)
      (subst (λ (n : Size). Behind w.columns n (chars (visible_of setup.prompt)) x.session.prompt) (sym fresh.size) fresh.prompt)

  -- the session made where nothing is drawn
  abbrev standing_as : Standing → State T H
  standing_as k = record { terminal = x.terminal; highlighter = x.highlighter; session = laid_at x.session.layout k x.session; tables = x.tables }

  moment-same : (k : Standing) → is_torn k ≡ false → moment_of (standing_as k) bare_view ≡ start
  moment-same k u i = record {
    terminal = x.terminal;
    highlighter = x.highlighter;
    page = record { line = tabled.line.0 i; pos = tabled.line.1 i; note = tabled.note i; hint = tabled.hint i; lit = fresh.lit i; upper = blank_paper; base = 0; window = 0; ended = false };
    torn = u i;
  }

  refused-created : (k : Standing) → is_torn k ≡ false → (e : Refusal) → Refusing w z start create (Some e) → Sound w.columns (laid_at x.session.layout k x.session) x.tables → Created w setup x.terminal x.highlighter (buffer_of b) (Err (Refused e)) (standing_as k)
  refused-created k u e refusing sound = record {
    settings = settings-are;
    refused = λ _ _. (refl, refl);
    layout = λ _. fresh.layout;
    sound = sound;
    steps = (bare_view, subst (λ (q : Settings). Buffered w q start create (Err (Refused e)) (moment_of (standing_as k) bare_view) (buffer_of b) (buffer_of x.tables)) settings-are (record { step = (refusing, moment-same k u); buffer = ap composed tabled.renderer }));
  }

  -- the terminal is not of the checked size
  pub size-created : (x.session.begun ≡ x.session.size → ⊥) → Created w setup x.terminal x.highlighter (buffer_of b) (Err (Refused refusal.Size)) (standing_as standing.Open)
  size-created apart = refused-created standing.Open refl refusal.Size (inr (refl, inl ((λ f. apart f.1), refl))) (record { prompt = behind; stands = λ e. absurd (apart e) })

  module _ (same : x.session.begun ≡ x.session.size) where
    size-fine : SizeFine w z start
    size-fine = (sym fresh.begun ∙ same, same)

    -- the prompt is higher than the window
    pub tall-created : (e : Refusal) → JudgesLine w.columns x.session.prompt x.session.size (line_of x.tables.line) x.tables.line.pos (Err e) → Created w setup x.terminal x.highlighter (buffer_of b) (Err (Refused e)) (standing_as standing.Tall)
    tall-created e judges = refused-created standing.Tall refl e (inr (refl, inr (size-fine, inr (tt, inr (tt, inr (tt, height)))))) (record { prompt = behind; stands = λ _. too-tall d ps e height })
      where
        height : Needs (Low d ps [] []) refusal.Tall NothingElse (Some e)
        height = subst (λ (t : List ℕ). Needs (Low d ps t []) refusal.Tall NothingElse (Some e)) tabled.line.0 (judges ps behind).refuses

    -- the empty line is drawn
    module _ (e : Placed) (judges : JudgesLine w.columns x.session.prompt x.session.size (line_of x.tables.line) x.tables.line.pos (Ok e)) (y : State T H) (r : Result Unit BrokenAct) (made : Refreshed w e x r y) where
      low : Low d ps [] []
      low = subst (λ (t : List ℕ). Low d ps t []) tabled.line.0 (needs-holds (judges ps behind).refuses)

      placed : PlacedFor w.columns x.session.size ps [] 0 e
      placed = subst (λ (n : ℕ). PlacedFor w.columns x.session.size ps [] n e) tabled.line.1 (subst (λ (t : List ℕ). PlacedFor w.columns x.session.size ps t x.tables.line.pos e) tabled.line.0 (judges ps behind).tells)

      sound : Sound w.columns x.session x.tables
      sound = record { prompt = behind; stands = λ _. subst (λ (k : Standing). Stands d x.tables x.session.layout k) (sym fresh.standing) (subst (λ (t : List ℕ). Low d ps t []) (sym tabled.line.0) low) }

      abbrev answers : Replies
      answers = replies w x y [] 0 e made.layout made.session x.tables made.tables r tabled.line refl made.prepares (painted-left made.paints) made.paints.drew.styles

      abbrev page_first : Page
      page_first = started d ps (w.screen x.terminal)

      abbrev page : Page
      page = page_next w x y [] 0 e made.layout made.session x.tables made.tables r tabled.line refl made.prepares (painted-left made.paints) made.paints.drew.styles sound good_none (omega arith, IsUtf8-nil) placed low page_first

      first-writes : Written w.answered x.terminal (first_page d ps x.session.holds answers page) r y.terminal
      first-writes =
          subst (λ (bs : List ℕ). Written w.answered x.terminal (framed x.session.holds ((bs ++ draw_page d ps answers page) ∷ [])) r y.terminal) (corner-erases x.session.layout fresh.layout)
          (redrawn-written w x y [] 0 e made.layout made.session x.tables made.tables r tabled.line refl made.prepares (painted-left made.paints) made.paints.drew.styles sound good_none (omega arith, IsUtf8-nil) placed low made.paints.drew.written page_first)

      first-bytes : buffer_of y.tables ≡ drawing d ps answers page
      first-bytes =
          made.paints.drew.bytes
          ∙ redrawn-bytes w x y [] 0 e made.layout made.session x.tables made.tables r tabled.line refl made.prepares (painted-left made.paints) made.paints.drew.styles sound good_none (omega arith, IsUtf8-nil) placed low page_first
          ∙ ap (λ (bs : List ℕ). bs ++ draw_page d ps answers page) (corner-erases x.session.layout fresh.layout)

      abbrev view : View
      view = record { upper = page_first.upper; base = page_first.base; window = page.window }

      went : WentBuffered w z start create r (buffer_of b) (buffer_of y.tables) (moment_of y view)
      went = redrawn-went w x y [] 0 e made.layout made.session x.tables made.tables r tabled.line refl made.prepares (painted-left made.paints) made.paints.drew.styles sound good_none (omega arith, IsUtf8-nil) placed low made.paints.drew.styled (buffer_of b) start create page_first refl refl refl (redrawn-heeds w x y [] 0 e made.layout made.session x.tables made.tables r tabled.line refl made.prepares (painted-left made.paints) made.paints.drew.styles sound good_none (omega arith, IsUtf8-nil) placed low page_first) first-writes first-bytes

      pub drawn-created : (o : Outcome) → o ≡ outcome_of r → Created w setup x.terminal x.highlighter (buffer_of b) o y
      drawn-created o is = subst (λ (q : Outcome). Created w setup x.terminal x.highlighter (buffer_of b) q y) (sym is) (record {
        settings = redrawn-settings w x y [] 0 e made.layout made.session x.tables made.tables r tabled.line refl made.prepares (painted-left made.paints) made.paints.drew.styles ∙ settings-are;
        refused = λ f q. absurd (not-refused r f q);
        layout = λ broken. subst (λ (l : Layout). LaidAs 1 corner corner corner l)
            (sym (redrawn-layout w x y [] 0 e made.layout made.session x.tables made.tables r tabled.line refl made.prepares (painted-left made.paints) made.paints.drew.styles (outcome-err r broken)))
            fresh.layout;
        sound = redrawn-sound w x y [] 0 e made.layout made.session x.tables made.tables r tabled.line refl made.prepares (painted-left made.paints) made.paints.drew.styles sound good_none (omega arith, IsUtf8-nil) placed low;
        steps = (view, subst (λ (q : Settings). Buffered w q start create (outcome_of r) (moment_of y view) (buffer_of b) (buffer_of y.tables)) settings-are (stepped-went w z start (moment_of y view) create r (buffer_of b) (buffer_of y.tables) (inr (refl, inr (size-fine, inr (tt, inr (tt, inr (tt, inr (low, refl))))))) went));
      })
