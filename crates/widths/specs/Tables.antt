-- The width tables by name. Assumes nothing.
use Rattle.std.specs.Prelude.{◌≡◌, ℕ, ◌↔◌, List, Result, Ok, codes}
use Rattle.widths.specs.declared.tables.Table.{Table}
use Rattle.widths.specs.declared.tables.Table.TheVariants.{Latin, Eastern}
use Rattle.widths.specs.declared.tables.UnknownTable.{UnknownTable}

abbrev pub table_name : Table → List ℕ
table_name Latin = codes "latin"
table_name Eastern = codes "eastern"

-- a table is read from its name alone
abbrev pub NamesTable : List ℕ → Result Table UnknownTable → Type 0
NamesTable name r = (t : Table) → (r ≡ Ok t) ↔ (name ≡ table_name t)
