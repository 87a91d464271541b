-- What a highlighter answers behind what is composed.
use Rattle.std.proofs.Common.{◌≡◌, ℕ, ◌≤◌, List, length, take, Some, None, Option}
use Rattle.buffer.specs.Contents.{Writes, spare}
use Rattle.highlight.specs.Answers.{Answers}
use Rattle.render.specs.Composing.{composed}
use Rattle.render.specs.Drawing.{Appends}
use Rattle.render.specs.declared.renderer.PosixRenderer.{PosixRenderer}

-- the room behind what is composed is lent for an answer to a text
module _ (r : PosixRenderer) (allows : List ℕ → Type 0) (text : List ℕ) (room : List ℕ) where
  -- n bytes are answered
  pub answer-appends : (o : Option ℕ) (end : List ℕ) (n limit : ℕ) → Answers allows text (spare r.buffer) o room → Writes room (composed r) o end → o ≡ Some n → ((lit : List ℕ) → allows lit → length lit ≤ limit) → Appends allows limit (composed r) end
  answer-appends None end n limit asked written some short = absurd (cc)
  answer-appends (Some m) end n limit asked written some short = record {
    answer = take m room;
    allowed = asked.answer;
    short = short (take m room) asked.answer;
    bytes = written;
  }
