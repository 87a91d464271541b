-- ASCII characters that a text may hold. Assumes nothing.
use Rattle.std.specs.Prelude.{◌≡◌, ℕ, ◌<◌, ◌≤◌, ◌⊎◌}

-- LF, or from U+0020 to U+007E
abbrev pub Simple : ℕ → Type 0
Simple b = (b ≡ 10) ⊎ ((32 ≤ b) × (b < 127))
