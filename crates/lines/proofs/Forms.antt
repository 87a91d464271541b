-- Forms of prompts, and what they show.
use Rattle.std.proofs.Common.{◌≡◌, ℕ, Bool, true, false, not, List, nat_eq, Decides, refl, sym, ap, ◌∙◌, subst}
use lib.Utf8.{encodes}
use Rattle.lines.specs.Forms.{Form, PromptFine, Shown}
use Rattle.page.proofs.Computing.{shows-as-decides}
use Rattle.page.proofs.Spelt.{spells-decodes}
use Rattle.page.specs.Computed.{shows_as}
use Rattle.std.proofs.lemmas.Bool.{not-false, not-true}
use Rattle.std.proofs.lemmas.Bool.Decides.{not_from_Decides, Decides-eqb}
use Rattle.std.proofs.lemmas.Slice.Eq.{slice_eq-Decides}
use Rattle.std.specs.Cmp.Lexicographic.{pointwise}
use Rattle.std.specs.Str.{chars}
use Rattle.text.proofs.Spelling.{spells-same}
use Rattle.text.proofs.Styling.{styled-good, styled-same}
use Rattle.text.specs.Texts.{Spells, Styled}

-- what a form shows is a good text
shown-spells : (form visible : List ℕ) (s : Shown form visible) → Spells visible s.characters
shown-spells form visible s = (styled-good s.form.shows, sym s.written)

-- two forms that show the same text
pub record Agreed (raw styled visible : List ℕ) : Type 0 where
  pub characters : List ℕ
  pub raw-shows : Form raw characters
  pub styled-shows : Form styled characters
  pub spells : Spells visible characters

pub agreed : (raw styled visible other : List ℕ) → Shown raw visible → Shown styled other → visible ≡ other → Agreed raw styled visible
agreed raw styled visible other s t e =
    let mine = shown-spells raw visible s in
    let its = subst (λ l. Spells l t.characters) (sym e) (shown-spells styled other t) in
    record { characters = s.characters; raw-shows = s.form; styled-shows = subst (Form styled) (spells-same visible t.characters s.characters its mine) t.form; spells = mine }

-- two forms that show different texts
pub shown-apart : (raw styled visible other : List ℕ) → Shown raw visible → Shown styled other → (visible ≡ other → ⊥) → PromptFine raw styled → ⊥
shown-apart raw styled visible other s t apart (cs, f, g) =
    apart (s.written ∙ ap encodes (styled-same s.form.shows f.shows ∙ styled-same g.shows t.form.shows) ∙ sym t.written)

-- the characters of the visible text are those that a form shows
pub shown-as : (held form visible cs : List ℕ) → held ≡ form → Form form cs → Spells visible cs → shows_as held (chars visible) ≡ true
shown-as held form visible cs e f s =
    let same = spells-same visible cs (chars visible) s (spells-decodes visible (cs, s)) in
    ap (λ x. shows_as x (chars visible)) e ∙ (shows-as-decides form (chars visible)).1 (subst (Styled form) same f.shows)

-- what a comparison of two texts tells
module _ (xs ys : List ℕ) (r : Bool) (is : r ≡ not (pointwise nat_eq xs ys)) where
  same : Decides (pointwise nat_eq xs ys) (xs ≡ ys)
  same = slice_eq-Decides Decides-eqb xs ys (pointwise nat_eq xs ys) refl

  pub ne-true : r ≡ true → xs ≡ ys → ⊥
  ne-true e = not_from_Decides (pointwise nat_eq xs ys) same (not-true (pointwise nat_eq xs ys) (sym is ∙ e))

  pub ne-false : r ≡ false → xs ≡ ys
  ne-false e = same.0 (not-false (pointwise nat_eq xs ys) (sym is ∙ e))
