-- When two sizes are one. Assumes nothing.
use Rattle.std.proofs.Common.{◌≡◌, ◌≤◌}
use mathlib.Core.HLevel.{is_prop→PathP}
use native.Mathlib.Bridge.{le_prop}
use Rattle.terminal.specs.declared.size.Size.{Size}

-- sizes of as many columns and rows are one
pub size-path : (a b : Size) → a.cols ≡ b.cols → a.rows ≡ b.rows → a ≡ b
size-path a b c r = λ i. record {
  cols = c i;
  rows = r i;
  wide = is_prop→PathP (λ k. 2 ≤ c k) (λ k. le_prop) a.wide b.wide i;
  narrow = is_prop→PathP (λ k. c k ≤ 500) (λ k. le_prop) a.narrow b.narrow i;
  high = is_prop→PathP (λ k. 1 ≤ r k) (λ k. le_prop) a.high b.high i;
  low = is_prop→PathP (λ k. r k ≤ 200) (λ k. le_prop) a.low b.low i;
}
