-- What the lines of a script say. Assumes nothing.
use Rattle.std.specs.Prelude.{◌≡◌, ℕ, ◌+◌, ◌⊎◌, cond, ◌==◌, List, [], ◌∷◌, ◌++◌, length, map, Some, None, Ok, Err, Option, Result, codes, vec_items}
use Rattle.std.specs.Str.{bytes_eq}
use Rattle.script.specs.Acts.{Deed, deed_of, given, act_of}
use Rattle.script.specs.Defaults.{IsDefault}
use Rattle.script.specs.Fields.{first_word, behind_word}
use Rattle.script.specs.Settings.{Setup, setup_of, change_of}
use Rattle.script.specs.declared.act.ScriptLine.{ScriptLine}
use Rattle.script.specs.declared.act.Verb.{Verb}
use Rattle.script.specs.declared.act.Verb.TheVariants as verbs
use Rattle.script.specs.declared.error.ScriptError.{ScriptError}
use Rattle.script.specs.declared.error.Wrong.{Wrong}
use Rattle.script.specs.declared.error.Wrong.TheVariants.{Memory, BadWord}
use Rattle.script.specs.declared.reading.Script.{Script}
use Rattle.script.specs.declared.settings.Setting.{Setting}
use Rattle.script.specs.declared.settings.Setting.TheVariants as settings
use Rattle.text.specs.Lines.{lines_of}

-- the settings, and the acts with their lines
pub record Said : Type 0 where
  pub setup : Setup
  pub acts : List (ℕ × Deed)

-- an act and its line
abbrev pub deed_in : ScriptLine → ℕ × Deed
deed_in it = (it.line, deed_of it.act)

abbrev pub said_by : Script → Said
said_by script = record { setup = setup_of script.settings; acts = map deed_in (vec_items script.acts) }

-- the verb that a word is
abbrev pub verb_of : List ℕ → Option Verb
verb_of w =
    cond (bytes_eq w (codes "create")) (Some verbs.Create)
    (cond (bytes_eq w (codes "insert")) (Some verbs.Insert)
    (cond (bytes_eq w (codes "set")) (Some verbs.Set)
    (cond (bytes_eq w (codes "go")) (Some verbs.Go)
    (cond (bytes_eq w (codes "refresh")) (Some verbs.Refresh)
    (cond (bytes_eq w (codes "message")) (Some verbs.Message)
    (cond (bytes_eq w (codes "notice")) (Some verbs.Notice)
    (cond (bytes_eq w (codes "clear")) (Some verbs.Clear)
    (cond (bytes_eq w (codes "finish")) (Some verbs.Finish) None))))))))

-- the setting that a word is
abbrev pub setting_of : List ℕ → Option Setting
setting_of w =
    cond (bytes_eq w (codes "size")) (Some settings.Size)
    (cond (bytes_eq w (codes "table")) (Some settings.Table)
    (cond (bytes_eq w (codes "prompt")) (Some settings.Prompt)
    (cond (bytes_eq w (codes "colours")) (Some settings.Colours)
    (cond (bytes_eq w (codes "holds")) (Some settings.Holds)
    (cond (bytes_eq w (codes "highlighter")) (Some settings.Highlighter)
    (cond (bytes_eq w (codes "caption")) (Some settings.Caption)
    (cond (bytes_eq w (codes "pace")) (Some settings.Pace)
    (cond (bytes_eq w (codes "paper")) (Some settings.Paper)
    (cond (bytes_eq w (codes "fault")) (Some settings.Fault) None)))))))))

-- an act in the n-th line
abbrev pub with_act : ℕ → Said → Deed → Said
with_act n s deed = record s { acts = s.acts ++ (n, deed) ∷ [] }

-- a setting with the fields behind it, before the first act
abbrev pub with_setting : Option Setting → List ℕ → Said → Option Said
with_setting None text s = None
with_setting (Some setting) text s = cond (length s.acts == 0) (given (change_of setting text s.setup) (λ setup. Some (record s { setup = setup }))) None

-- an act, or else a setting
abbrev pub with_verb : Option Verb → Option Setting → ℕ → List ℕ → Said → Option Said
with_verb None setting n text s = with_setting setting text s
with_verb (Some verb) setting n text s = given (act_of verb text) (λ deed. Some (with_act n s deed))

-- a line with this first word and these fields behind it: none and one that begins with # say nothing
abbrev pub with_word : List ℕ → ℕ → List ℕ → Said → Option Said
with_word [] n text s = Some s
with_word (b ∷ bs) n text s = cond (b == 35) (Some s) (with_verb (verb_of (b ∷ bs)) (setting_of (b ∷ bs)) n text s)

-- what is said after the n-th line; none where it is wrong
abbrev pub with_line : ℕ → List ℕ → Said → Option Said
with_line n line s = with_word (first_word line) n (behind_word line) s

-- what a call says of such a line: what is said then; or what was said before, for want of memory, or where a word is not UTF-8, or where the line is wrong
abbrev pub Adds : Option Said → Script → Script → Result (Unit {0}) Wrong → Type 0
Adds wanted old new (Ok u) = wanted ≡ Some (said_by new)
Adds wanted old new (Err wrong) = ((wrong ≡ Memory) ⊎ ((wrong ≡ BadWord) ⊎ (wanted ≡ None))) × (said_by new ≡ said_by old)

-- what lines say, one after the other: of none the default settings and no acts
pub data Say : List (List ℕ) → Said → Type 0 where
  nothing : (script : Script) → IsDefault script.settings → vec_items script.acts ≡ [] → Say [] (said_by script)
  more : (lines : List (List ℕ)) (line : List ℕ) (s t : Said) → Say lines s → with_line (length lines + 1) line s ≡ Some t → Say (lines ++ line ∷ []) t

-- a script is read up to a line, which is wrong
pub record Stops (text : List ℕ) (script : Script) (e : ScriptError) : Type 0 where
  pub before : List (List ℕ)
  pub line : List ℕ
  pub behind : List (List ℕ)
  pub lines : before ++ line ∷ behind ≡ lines_of text
  pub number : e.line ≡ length before + 1
  pub said : Say before (said_by script)
  pub wrong : (e.wrong ≡ Memory) ⊎ ((e.wrong ≡ BadWord) ⊎ (with_line e.line line (said_by script) ≡ None))

-- what a text means as a script: what all of its lines say, or the lines before the one that is told
abbrev pub Means : List ℕ → Script → Option ScriptError → Type 0
Means text script None = Say (lines_of text) (said_by script)
Means text script (Some e) = Stops text script e
