-- The texts of a block as a session's highlighter answers them, or as they are. Assumes nothing.
use Rattle.std.specs.Prelude.{ℕ, Bool, true, cond, List}
use Rattle.render.specs.Drawing.{NoteLit, Styles, Texts, Uncoloured}

module _ (lights : List ℕ → ℕ → List ℕ → Type 0) (lights_prompt : List ℕ → Bool → List ℕ → Type 0) (lights_hint : List ℕ → List ℕ → Type 0) where
  -- the texts as a highlighter answers them
  pub record Coloured (x : Texts) (s : Styles) : Type 0 where
    pub prompt : lights_prompt x.styled true s.prompt
    pub line : lights x.line x.pos s.line
    pub note : NoteLit lights_hint x.note s.note

  -- with colours or without
  abbrev pub StyledTexts : Bool → Texts → Styles → Type 0
  StyledTexts colours x s = cond colours (Coloured x s) (Uncoloured x s)
