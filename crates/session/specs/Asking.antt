-- What a session asks of its highlighter. Assumes nothing.
use Rattle.std.specs.Prelude.{◌≡◌, ℕ, Bool, false, cond, ◌||◌, List}
use Rattle.lines.specs.Lines.{line_of}
use Rattle.lines.specs.declared.line_buffer.LineBuffer.{LineBuffer}
use Rattle.session.specs.declared.session.Session.{Session}

-- the session with another answer of the highlighter
abbrev pub with_lit : Bool → Session → Session
with_lit y s = record { size = s.size; begun = s.begun; colours = s.colours; holds = s.holds; standing = s.standing; lit = y; prompt = s.prompt; layout = s.layout }

-- with colours the highlighter is asked, without them nobody is, and the answer is no; the session remembers the answer
pub record Asked {H : Type 0} (heeds : H → List ℕ → ℕ → Bool → H → Type 0) (h : H) (line : LineBuffer) (s : Session) (r : Bool) (t : Session) (k : H) : Type 0 where
  pub session : t ≡ with_lit t.lit s
  pub anew : r ≡ (t.lit || s.lit)
  pub heard : cond s.colours (heeds h (line_of line) line.pos t.lit k) ((t.lit ≡ false) × (k ≡ h))
