-- When a notice is refused. Assumes nothing.
use Rattle.std.specs.Prelude.{ℕ, ◌≤◌, List, length, Option}
use Rattle.page.specs.Rules.{Needs, NothingElse}
use Rattle.text.specs.Texts.{GoodText}
use Rattle.text.specs.declared.refusal.Refusal.{Refusal}
use Rattle.text.specs.declared.refusal.Refusal.TheVariants.{Long, Text}

-- a notice: a good text, of at most 4,096 bytes
abbrev pub NoticeRule : List ℕ → Option Refusal → Type 0
NoticeRule text = Needs (GoodText text) Text (Needs (length text ≤ 4096) Long NothingElse)
