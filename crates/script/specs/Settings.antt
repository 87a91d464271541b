-- Which setting a line is, and what it does to those before it. Assumes nothing.
use Rattle.std.specs.Prelude.{◌≡◌, ℕ, Bool, true, false, cond, ◌==◌, ◌^◌, ◌⊎◌, List, [], ◌∷◌, ◌++◌, length, Some, None, Ok, Err, Option, Result, codes, vec_items}
use Rattle.std.specs.Str.{bytes_eq}
use Rattle.faults.specs.declared.fault.Fault.{Fault}
use Rattle.script.specs.Acts.{given, ended, below, number_at, small_at, string_at, last_number_at, last_small_at, last_string_at}
use Rattle.script.specs.Fields.{behind_run, first_word, behind_word}
use Rattle.script.specs.Numbers.{number_of}
use Rattle.script.specs.declared.error.Wrong.{Wrong}
use Rattle.script.specs.declared.error.Wrong.TheVariants as wrongs
use Rattle.script.specs.declared.settings.Highlighting.{Highlighting}
use Rattle.script.specs.declared.settings.Highlighting.TheVariants.{Plain, Brackets}
use Rattle.script.specs.declared.settings.Setting.{Setting}
use Rattle.script.specs.declared.settings.Setting.TheVariants as settings
use Rattle.script.specs.declared.settings.Settings.{Settings}
use Rattle.terminal.specs.declared.terminal.WriteError.{WriteError}
use Rattle.terminal.specs.declared.terminal.WriteError.TheVariants.{Down, Interrupted}
use Rattle.widths.specs.declared.tables.Table.{Table}
use Rattle.widths.specs.declared.tables.Table.TheVariants.{Latin, Eastern}

-- settings, their strings as bytes
pub record Setup : Type 0 where
  pub cols : ℕ
  pub rows : ℕ
  pub table : Table
  pub raw : List ℕ
  pub styled : List ℕ
  pub colours : Bool
  pub holds : Bool
  pub highlighting : Highlighting
  pub captions : List ℕ
  pub pace : ℕ
  pub paper : ℕ
  pub faults : List Fault

abbrev pub setup_of : Settings → Setup
setup_of s = record { cols = s.cols; rows = s.rows; table = s.table; raw = vec_items s.raw; styled = vec_items s.styled; colours = s.colours; holds = s.holds; highlighting = s.highlighting; captions = vec_items s.captions; pace = s.pace; paper = s.paper; faults = vec_items s.faults }

-- whether a word is the first of two; none where it is neither
abbrev pub choice : List ℕ → List ℕ → List ℕ → Option Bool
choice one other word = cond (bytes_eq word one) (Some true) (cond (bytes_eq word other) (Some false) None)

-- the same of the one word that is left
abbrev pub last_choice_at : List ℕ → List ℕ → List ℕ → Option Bool
last_choice_at one other text = given (ended (first_word text) (behind_word text)) (choice one other)

abbrev pub last_switch_at : List ℕ → Option Bool
last_switch_at text = last_choice_at (codes "on") (codes "off") text

abbrev pub last_table_at : List ℕ → Option Table
last_table_at text = given (last_choice_at (codes "latin") (codes "eastern") text) (λ latin. Some (cond latin Latin Eastern))

abbrev pub last_highlighting_at : List ℕ → Option Highlighting
last_highlighting_at text = given (last_choice_at (codes "plain") (codes "brackets") text) (λ plain. Some (cond plain Plain Brackets))

-- how a call goes wrong: `down`, `interrupted`, or how many bytes it takes
abbrev pub answer_of : List ℕ → Option (Result ℕ WriteError)
answer_of word =
    cond (bytes_eq word (codes "down")) (Some (Err Down)) (cond (bytes_eq word (codes "interrupted")) (Some (Err Interrupted))
    (given (below (2 ^ 64) (number_of word)) (λ n. Some (Ok n))))

-- the styled prompt: raw where nothing is left
abbrev pub styled_at : List ℕ → List ℕ → Option (List ℕ)
styled_at raw text = cond (length (behind_run true text) == 0) (Some raw) (last_string_at text)

-- the fault that a call and the fields behind it say
abbrev pub fault_at : List ℕ → Option Fault
fault_at text =
    given (number_at text) (λ call. given (answer_of (first_word (behind_word text)))
    (λ answer. ended (record { call = call; answer = answer }) (behind_word (behind_word text))))

-- the settings after one with the fields behind it; none where they cannot be read
abbrev pub change_of : Setting → List ℕ → Setup → Option Setup
change_of settings.Size text s = given (small_at text) (λ cols. given (last_small_at (behind_word text)) (λ rows. Some (record s { cols = cols; rows = rows })))
change_of settings.Table text s = given (last_table_at text) (λ table. Some (record s { table = table }))
change_of settings.Prompt text s = given (string_at text) (λ raw. given (styled_at raw.0 raw.1) (λ styled. Some (record s { raw = raw.0; styled = styled })))
change_of settings.Colours text s = given (last_switch_at text) (λ colours. Some (record s { colours = colours }))
change_of settings.Holds text s = given (last_switch_at text) (λ holds. Some (record s { holds = holds }))
change_of settings.Highlighter text s = given (last_highlighting_at text) (λ h. Some (record s { highlighting = h }))
change_of settings.Caption text s = given (last_string_at text) (λ caption. Some (record s { captions = s.captions ++ (caption ++ 10 ∷ []) }))
change_of settings.Pace text s = given (last_number_at text) (λ pace. Some (record s { pace = pace }))
change_of settings.Paper text s = given (last_number_at text) (λ paper. Some (record s { paper = paper }))
change_of settings.Fault text s = given (fault_at text) (λ fault. Some (record s { faults = s.faults ++ fault ∷ [] }))

-- what a call says: such settings; or those from before, for want of memory, or where a word is not UTF-8, or where there are none such
abbrev pub Changes : Option Setup → Settings → Settings → Result (Unit {0}) Wrong → Type 0
Changes wanted old new (Ok u) = wanted ≡ Some (setup_of new)
Changes wanted old new (Err wrong) = ((wrong ≡ wrongs.Memory) ⊎ ((wrong ≡ wrongs.BadWord) ⊎ (wanted ≡ None))) × (setup_of new ≡ setup_of old)
