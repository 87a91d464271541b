-- What always holds of a prompt.
use Rattle.std.proofs.Common.{◌≤◌, length}
use Rattle.buffer.proofs.Buffers.{contents-short}
use Rattle.lines.specs.Prompts.{raw_of, styled_of, visible_of}
use Rattle.lines.specs.declared.prompt.Prompt.{Prompt}
use Rattle.page.proofs.Computing.{good-text, shows-as-decides}
use Rattle.page.proofs.Spelt.{spells-decodes}
use Rattle.std.specs.Str.{chars}
use Rattle.text.specs.Texts.{Spells, Styled}

pub raw-shows : (p : Prompt) → Styled (raw_of p) (chars (visible_of p))
raw-shows p = (shows-as-decides (raw_of p) (chars (visible_of p))).0 p.plainly

pub styled-shows : (p : Prompt) → Styled (styled_of p) (chars (visible_of p))
styled-shows p = (shows-as-decides (styled_of p) (chars (visible_of p))).0 p.coloured

pub visible-spells : (p : Prompt) → Spells (visible_of p) (chars (visible_of p))
visible-spells p = spells-decodes (visible_of p) (good-text (visible_of p) p.good)

pub raw-short : (p : Prompt) → length (raw_of p) ≤ 512
raw-short p = contents-short p.raw

pub styled-short : (p : Prompt) → length (styled_of p) ≤ 512
styled-short p = contents-short p.styled

pub visible-short : (p : Prompt) → length (visible_of p) ≤ 512
visible-short p = contents-short p.visible
