-- Empty tables.
use Rattle.std.proofs.Common.{◌≡◌, true, [], is_ok, Ok, Err, Result, refl, arith}
use Rattle.lines.specs.Forms.{Form}
use Rattle.lines.specs.Prompts.{MakesPrompt}
use Rattle.lines.specs.declared.prompt.Prompt.{Prompt}
use Rattle.text.specs.Texts.{ends}
use Rattle.text.specs.declared.refusal.Refusal.{Refusal}

none-form : Form [] []
none-form = record { shows = ends; short = omega arith }

-- a prompt of no bytes is made
pub none_made : (r : Result Prompt Refusal) → MakesPrompt [] [] r → is_ok r ≡ true
none_made (Ok p) h = refl
none_made (Err e) h = absurd (h.1 ([], none-form, none-form))
