-- What a terminal, a highlighter and a hinter keep, so that the law holds. Assumes nothing.
use Rattle.std.specs.Prelude.{◌≡◌, ℕ, ◌≤◌, Bool, true, List}
use Rattle.page.specs.Law.{World}
use Rattle.terminal.specs.Answers.{WriteAnswer, Worked}
use Rattle.terminal.specs.Windows.{Inside, geometry}
use Rattle.text.specs.Characters.{is_control}
use Rattle.text.specs.Texts.{Spells, Styled}

module _ {T H : Type 0} (w : World T H) where
  pub record Meant : Type 0 where
    -- the terminal: its cursor is in the window, just the bytes taken have worked, its size stays
    pub inside : (t : T) → Inside (geometry w.columns (w.extent t)) (w.screen t)
    pub works : (s t : T) (bytes : List ℕ) (a : WriteAnswer) → w.answered s bytes a t → Worked (geometry w.columns (w.extent s)) bytes (w.screen s) a (w.screen t)
    pub fixed : (s t : T) (bytes : List ℕ) (a : WriteAnswer) → w.answered s bytes a t → w.extent t ≡ w.extent s
    -- its width table gives at most 2, and 0 to controls
    pub narrow : (c : ℕ) → w.columns c ≤ 2
    pub controls : (c : ℕ) → is_control c ≡ true → w.columns c ≡ 0
    -- the highlighter shows the given text
    pub line_shown : (h : H) (line cs lit : List ℕ) (pos : ℕ) → Spells line cs → w.lights h line pos lit → Styled lit cs
    pub prompt_shown : (h : H) (prompt cs lit : List ℕ) (standard : Bool) → Styled prompt cs → w.lights_prompt h prompt standard lit → Styled lit cs
    pub hint_shown : (h : H) (hint cs lit : List ℕ) → Spells hint cs → w.lights_hint h hint lit → Styled lit cs
