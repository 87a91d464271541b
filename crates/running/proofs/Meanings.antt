-- Terminals, highlighters and prompts mean what the law asks.
use Rattle.std.proofs.Common.{◌≡◌, ℕ, ◌≤◌, Bool, true, List, Option}
use Rattle.highlight.specs.Answers.{Shows}
use Rattle.highlight.specs.declared.highlight.CmdKind.{CmdKind}
use Rattle.lines.specs.Prompts.{raw_of, styled_of, visible_of}
use Rattle.lines.specs.declared.prompt.Prompt.{Prompt}
use Rattle.page.proofs.Computing.{shows-as-decides}
use Rattle.page.specs.Meaning.{Meant}
use Rattle.screen.specs.Screen.{Screen}
use Rattle.session.specs.Acting.{world_of}
use Rattle.std.specs.Str.{chars}
use Rattle.terminal.specs.Answers.{Worked, WriteAnswer}
use Rattle.terminal.specs.Windows.{Inside, geometry}
use Rattle.terminal.specs.declared.size.Size.{Size}
use Rattle.text.specs.Characters.{is_control}
use Rattle.text.specs.Texts.{Spells, Styled}

pub meant : {T H : Type 0} (screen : T → Screen) (extent : T → Size) (answered : T → List ℕ → WriteAnswer → T → Type 0) (columns : ℕ → ℕ)
    (lights : H → List ℕ → ℕ → List ℕ → Type 0) (lights_prompt : H → List ℕ → Bool → List ℕ → Type 0) (lights_hint : H → List ℕ → List ℕ → Type 0) (heeds : H → List ℕ → ℕ → CmdKind → Bool → H → Type 0) (hints : List ℕ → ℕ → Option (List ℕ))
    → ((t : T) → Inside (geometry columns (extent t)) (screen t))
    → ((s t : T) (bytes : List ℕ) (a : WriteAnswer) → answered s bytes a t → Worked (geometry columns (extent s)) bytes (screen s) a (screen t))
    → ((s t : T) (bytes : List ℕ) (a : WriteAnswer) → answered s bytes a t → extent t ≡ extent s)
    → ((c : ℕ) → columns c ≤ 2) → ((c : ℕ) → is_control c ≡ true → columns c ≡ 0)
    → ((h : H) (line cs lit : List ℕ) (pos : ℕ) → Spells line cs → lights h line pos lit → Shows cs line lit)
    → ((h : H) (prompt cs lit : List ℕ) (standard : Bool) → Styled prompt cs → lights_prompt h prompt standard lit → Shows cs prompt lit)
    → ((h : H) (hint cs lit : List ℕ) → Spells hint cs → lights_hint h hint lit → Shows cs hint lit)
    → Meant (world_of screen extent answered columns lights lights_prompt lights_hint heeds hints)
meant screen extent answered columns lights lights_prompt lights_hint heeds hints inside works fixed narrow controls line prompt hint = record {
  inside = inside;
  works = works;
  fixed = fixed;
  narrow = narrow;
  controls = controls;
  line_shown = λ h l cs lit pos s k. (line h l cs lit pos s k).visible;
  prompt_shown = λ h l cs lit d s k. (prompt h l cs lit d s k).visible;
  hint_shown = λ h l cs lit s k. (hint h l cs lit s k).visible;
}

-- both forms of a prompt show its text
pub raw-shown : (p : Prompt) → Styled (raw_of p) (chars (visible_of p))
raw-shown p = (shows-as-decides (raw_of p) (chars (visible_of p))).0 p.plainly

pub styled-shown : (p : Prompt) → Styled (styled_of p) (chars (visible_of p))
styled-shown p = (shows-as-decides (styled_of p) (chars (visible_of p))).0 p.coloured
