-- The settings of a script that says none. Assumes nothing.
use Rattle.std.specs.Prelude.{◌≡◌, [], false, codes}
use Rattle.script.specs.declared.settings.Highlighting.TheVariants.{Plain}
use Rattle.script.specs.declared.settings.Settings.{Settings}
use Rattle.widths.specs.declared.tables.Table.TheVariants.{Latin}

-- 80 columns by 24 rows, the Latin table, the prompt `> `, no colours, no holds, no lit brackets, no captions, no pacers, 10,000 rows of paper, no faults
pub record IsDefault (s : Settings) : Type 0 where
  pub cols : s.cols ≡ 80
  pub rows : s.rows ≡ 24
  pub table : s.table ≡ Latin
  pub raw : s.raw.items ≡ codes "> "
  pub styled : s.styled.items ≡ codes "> "
  pub colours : s.colours ≡ false
  pub holds : s.holds ≡ false
  pub highlighting : s.highlighting ≡ Plain
  pub captions : s.captions.items ≡ []
  pub pace : s.pace ≡ 0
  pub paper : s.paper ≡ 10000
  pub faults : s.faults.items ≡ []
