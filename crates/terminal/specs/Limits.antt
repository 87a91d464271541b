-- Which sizes a terminal may have. Assumes nothing.
use Rattle.std.specs.Prelude.{ℕ, Bool, ◌&&◌, nat_le}

-- from 2 to 500 columns and from 1 to 200 rows
abbrev pub proper : ℕ → ℕ → Bool
proper cols rows = nat_le 2 cols && (nat_le cols 500 && (nat_le 1 rows && nat_le rows 200))
