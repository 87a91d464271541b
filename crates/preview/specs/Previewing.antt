-- How a prepared caption stands on a screen behind its prompt. Assumes nothing.
use Rattle.std.specs.Prelude.{◌≡◌, ℕ, ◌+◌, ◌<◌, ◌≤◌, List, [], ◌∷◌, ◌++◌, length, Some, None, Ok, Err, Option, Result}
use Rattle.highlight.specs.Brackets.{checked}
use Rattle.highlight.specs.Lighting.{to_light}
use Rattle.layout.specs.Drawing.{walk_place}
use Rattle.layout.specs.Measuring.{at_end}
use Rattle.layout.specs.declared.layout.Position.{Position}
use Rattle.page.specs.Law.{Written}
use Rattle.page.specs.Rules.{Needs, NothingElse}
use Rattle.page.specs.declared.outcome.BrokenAct.{BrokenAct}
use Rattle.page.specs.declared.outcome.Rejection.{Rejection}
use Rattle.page.specs.declared.outcome.Rejection.TheVariants.{Broke, Refused}
use Rattle.preview.specs.declared.preview.Preview.{Preview}
use Rattle.screen.specs.Bytes.{feed}
use Rattle.screen.specs.Places.{place_of, top_left}
use Rattle.screen.specs.Screen.{Geometry, Screen, block, place_row}
use Rattle.std.specs.Str.{chars}
use Rattle.terminal.specs.Answers.{WriteAnswer}
use Rattle.terminal.specs.declared.writing.BrokenWrite.{BrokenWrite}
use Rattle.text.specs.Texts.{GoodText, Spells, Styled, StyledText}
use Rattle.text.specs.declared.refusal.Refusal.{Refusal}
use Rattle.text.specs.declared.refusal.Refusal.TheVariants.{Long, Prompt, Tall, Text}
use Rattle.text.specs.declared.refusal.Refusal.TheVariants as refusal

-- a good styled text of at most 512 bytes
abbrev pub PromptFine : List ℕ → Type 0
PromptFine prompt = (length prompt ≤ 512) × StyledText prompt

-- prompt and caption are not higher than the window
abbrev pub HeightFine : Geometry → List ℕ → List ℕ → Type 0
HeightFine d prompt caption = (cs : List ℕ) → Styled prompt cs → place_row d (block d (cs ++ chars caption)) < d.rows

-- a caption by itself: 3 where it is not good, else 4 past 4,096 bytes
abbrev pub CaptionRefused : (Option Refusal → Type 0) → List ℕ → Option Refusal → Type 0
CaptionRefused rest caption = Needs (GoodText caption) refusal.Text (Needs (length caption ≤ 4096) refusal.Long rest)

-- the refusal of a caption, or none: 2, then 3, 4 and 6
abbrev pub Refuses : Geometry → List ℕ → List ℕ → Option Refusal → Type 0
Refuses d prompt caption =
    Needs (PromptFine prompt) refusal.Prompt
    (CaptionRefused (Needs (HeightFine d prompt caption) refusal.Tall NothingElse) caption)

-- where prompt and caption end, and the bracket that lights with the cursor behind the caption
pub record Stands (d : Geometry) (prompt caption : List ℕ) (p : Preview) : Type 0 where
  pub end : (cs : List ℕ) → Styled prompt cs → p.end ≡ place_of d (block d (cs ++ chars caption))
  pub bracket : p.bracket ≡ to_light (checked caption (length caption)) caption

-- where good texts end, one behind the other
abbrev pub EndsAt : (ℕ → ℕ) → ℕ → List ℕ → List ℕ → Option Position → Type 0
EndsAt w cols first second r =
    (cs ds : List ℕ) → Spells first cs → Spells second ds → length first + length second ≤ 65000 → r ≡ Some (at_end cols (walk_place cols w (cs ++ ds) top_left))

-- what is told before anything is drawn
abbrev pub Plans : Geometry → List ℕ → List ℕ → Result Preview Refusal → Type 0
Plans d prompt caption (Ok p) = Refuses d prompt caption None × Stands d prompt caption p
Plans d prompt caption (Err e) = Refuses d prompt caption (Some e)

-- how a write ends, with its number where it breaks an act
abbrev pub numbered : ℕ → Result (Unit {0}) BrokenWrite → Result (Unit {0}) BrokenAct
numbered n (Ok u) = Ok u
numbered n (Err e) = Err (record { number = n; write = e })

module _ {T : Type 0} (answered : T → List ℕ → WriteAnswer → T → Type 0) (screen : T → Screen) (d : Geometry) (prompt caption : List ℕ) where
  -- prompt and caption are drawn by their bytes
  pub record Drawn (before after : T) : Type 0 where
    pub writes : Written answered before (prompt ∷ caption ∷ []) (Ok tt) after
    pub drawn : screen after ≡ feed d caption (feed d prompt (screen before))

  -- they are drawn, or one of the two writes breaks
  abbrev pub Draws : T → Result (Unit {0}) BrokenAct → T → Type 0
  Draws before (Ok _) after = Drawn before after
  Draws before (Err b) after = Written answered before (prompt ∷ caption ∷ []) (Err b) after

  -- a preview: drawn; or refused, with nothing written; or broken by the terminal
  abbrev pub Previews : T → Result Preview Rejection → T → Type 0
  Previews before (Ok p) after = Refuses d prompt caption None × Stands d prompt caption p × Drawn before after
  Previews before (Err (Refused e)) after = Refuses d prompt caption (Some e) × (after ≡ before)
  Previews before (Err (Broke b)) after = Refuses d prompt caption None × Written answered before (prompt ∷ caption ∷ []) (Err b) after
