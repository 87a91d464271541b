-- From checks of a size, a prompt and its height to a check of a session's settings.
use Rattle.std.proofs.Common.{◌≡◌, ℕ, Bool, true, false, ◌&&◌, leb, List, [], ◌++◌, is_some, Some, None, Ok, Err, Decides, Option, sym, refl, ap, ◌∙◌, subst, inl, inr, append-nil, arith}
use Rattle.judging.proofs.Heights.{low-none, not_low}
use Rattle.judging.specs.Judgements.{Behind, Low}
use Rattle.layout.specs.Drawing.{walk_place}
use Rattle.layout.specs.declared.block.Layout.{Layout}
use Rattle.layout.specs.declared.layout.Position.{Position}
use Rattle.lines.specs.Forms.{Form, PromptFine}
use Rattle.lines.specs.Prompts.{MadeOf, visible_of}
use Rattle.lines.specs.declared.prompt.Prompt.{Prompt}
use Rattle.measuring.specs.Measured.{Computes, EndsFor, LaysText}
use Rattle.page.proofs.Spelt.{good_none, spells-decodes}
use Rattle.screen.specs.Places.{top_left}
use Rattle.screen.specs.Screen.{Geometry}
use Rattle.session.specs.Checking.{Checks, window}
use Rattle.std.proofs.lemmas.Bool.{and_from, both_ways, le-leb}
use Rattle.std.proofs.lemmas.Str.{chars-nil, IsUtf8-nil}
use Rattle.std.specs.Str.{chars}
use Rattle.terminal.specs.Limits.{proper}
use Rattle.terminal.specs.Windows.{geometry}
use Rattle.terminal.specs.declared.size.Size.{Size}
use Rattle.text.proofs.Spelling.{spells-same}
use Rattle.text.proofs.Styling.{styled-same}
use Rattle.text.specs.declared.refusal.Refusal.{Refusal}
use Rattle.text.specs.declared.refusal.Refusal.TheVariants as refusal

-- an empty line ends where its prompt does
pub none-ends : (w : ℕ → ℕ) (z : Size) (ps : List ℕ) (q : Position) → Behind w z ps q → EndsFor w z.cols ps [] 0 (record { cursor = q; end = q })
none-ends w z ps q b = record { cursor = at; end = at; low = let h = b.prompt.low in omega arith }
  where
    same : ps ≡ ps ++ chars []
    same = sym (append-nil ps) ∙ ap (λ (x : List ℕ). ps ++ x) (sym chars-nil)

    at : q ≡ walk_place z.cols w (ps ++ chars []) top_left
    at = b.prompt.place ∙ ap (λ (x : List ℕ). walk_place z.cols w x top_left) same

-- whether a prompt has a layout tells whether the window holds it
pub fits-decided : (w : ℕ → ℕ) (z : Size) (ps : List ℕ) (q : Position) (o : Option Layout) (r : Bool) → Behind w z ps q → Computes w z q (record { cursor = q; end = q }) None o → r ≡ is_some o → Decides r (Low (geometry w z) ps [] [])
fits-decided w z ps q o r b h e = subst (λ (x : Bool). Decides x (Low (geometry w z) ps [] [])) (sym e) (by o (h ps [] 0 b.good b.prompt good_none (omega arith, IsUtf8-nil) (none-ends w z ps q b) tt))
  where
    by : (o : Option Layout) → LaysText (geometry w z) ps (ps ++ chars []) (ps ++ (chars [] ++ [])) o → Decides (is_some o) (Low (geometry w z) ps [] [])
    by None h = ((λ e. absurd (both_ways false refl e)), λ low. absurd (not_low (geometry w z) ps [] h low))
    by (Some l) h = ((λ _. low-none (geometry w z) ps [] h.0), λ _. refl)

-- a size is proper
size-proper : (z : Size) (cols rows : ℕ) → z.cols ≡ cols → z.rows ≡ rows → proper cols rows ≡ true
size-proper z cols rows c r =
    and_from (leb 2 cols) (leb cols 500 && (leb 1 rows && leb rows 200)) (le-leb 2 cols (let h = z.wide in omega arith))
    (and_from (leb cols 500) (leb 1 rows && leb rows 200) (le-leb cols 500 (let h = z.narrow in omega arith))
    (and_from (leb 1 rows) (leb rows 200) (le-leb 1 rows (let h = z.high in omega arith)) (le-leb rows 200 (let h = z.low in omega arith))))

module _ (w : ℕ → ℕ) (cols rows : ℕ) (raw styled : List ℕ) (colours holds : Bool) where
  pub size-refused : (e : Refusal) → e ≡ refusal.Size → proper cols rows ≡ false → Checks w cols rows raw styled colours holds (Err e)
  size-refused e is not = record { refuses = inl ((λ t. both_ways (proper cols rows) not t), ap Some is); tells = tt }

  module _ (z : Size) (c : z.cols ≡ cols) (r : z.rows ≡ rows) where
    fine : proper cols rows ≡ true
    fine = size-proper z cols rows c r

    pub prompt-refused : (e : Refusal) → e ≡ refusal.Prompt → (PromptFine raw styled → ⊥) → Checks w cols rows raw styled colours holds (Err e)
    prompt-refused e is not = record { refuses = inr (fine, inl (not, ap Some is)); tells = tt }

    module _ (p : Prompt) (made : MadeOf raw styled p) (fit : Bool) (low : Decides fit (Low (geometry w z) (chars (visible_of p)) [] [])) where
      prompt-fine : PromptFine raw styled
      prompt-fine = (made.characters, made.raw-shows, made.styled-shows)

      visible-is : chars (visible_of p) ≡ made.characters
      visible-is = spells-same (visible_of p) (chars (visible_of p)) made.characters (spells-decodes (visible_of p) (made.characters, made.visible)) made.visible

      window-is : geometry w z ≡ window w cols rows
      window-is i = record { width = w; cols = c i; rows = r i }

      low-there : Low (geometry w z) (chars (visible_of p)) [] [] → (cs : List ℕ) → Form raw cs → Low (window w cols rows) cs [] []
      low-there h cs f = subst (λ (d : Geometry). Low d cs [] []) window-is (subst (λ (x : List ℕ). Low (geometry w z) x [] []) (visible-is ∙ styled-same made.raw-shows.shows f.shows) h)

      low-back : ((cs : List ℕ) → Form raw cs → Low (window w cols rows) cs [] []) → Low (geometry w z) (chars (visible_of p)) [] []
      low-back h = subst (λ (d : Geometry). Low d (chars (visible_of p)) [] []) (sym window-is) (subst (λ (x : List ℕ). Low (window w cols rows) x [] []) (sym visible-is) (h made.characters made.raw-shows))

      pub tall-refused : fit ≡ false → Checks w cols rows raw styled colours holds (Err refusal.Tall)
      tall-refused not = record { refuses = inr (fine, inr (prompt-fine, inl ((λ h. both_ways fit not (low.1 (low-back h))), refl))); tells = tt }

      pub accepted : fit ≡ true → Checks w cols rows raw styled colours holds (Ok (record { size = z; prompt = p; colours = colours; holds = holds }))
      accepted does = record {
        refuses = inr (fine, inr (prompt-fine, inr (low-there (low.0 does), refl)));
        tells = record { cols = c; rows = r; prompt = made; colours = refl; holds = refl };
      }
