-- Which bytes a grid takes. Assumes nothing.
use Rattle.std.specs.Prelude.{◌≡◌, ℕ, ◌+◌, Bool, cond, List, [], ◌∷◌, length, take, nat_le}
use Rattle.screen.specs.Screen.{Screen, Geometry}
use Rattle.screen.specs.Bytes.{step, feed}
use Rattle.terminal.specs.Answers.{WriteAnswer, taken, answer_for}
use Rattle.grid.specs.declared.grid.Grid.{Grid}
use Rattle.grid.specs.Meaning.{shown, area}

-- the byte fits so many rows of paper: the window then lies within them
abbrev pub fits : Geometry → ℕ → ℕ → Screen → Bool
fits d depth b s = nat_le ((step d b s).top + d.rows) depth

-- how many bytes fit, up to the first that does not
abbrev pub fitting : Geometry → ℕ → List ℕ → Screen → ℕ
fitting d depth [] s = 0
fitting d depth (b ∷ bs) s = cond (fits d depth b s) (1 + fitting d depth bs (step d b s)) 0

-- the bytes that fit were taken, down exactly when the first does not, and just they have worked; rows and size are as before
pub record Fitted {W : Type 0} (w : ℕ → ℕ) (before : Grid W) (bytes : List ℕ) (a : WriteAnswer) (after : Grid W) : Type 0 where
  pub answer : a ≡ answer_for (length bytes) (fitting (area w before) before.depth bytes (shown before))
  pub drawn : shown after ≡ feed (area w before) (take (taken a) bytes) (shown before)
  pub depth : after.depth ≡ before.depth
  pub size : after.size ≡ before.size
