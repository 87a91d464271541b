use Rattle.std.proofs.Common.{sym, ◌∙◌}
use Rattle.std.proofs.lemmas.Bool.{false≢true, true≢false}
use Rattle.session.proofs.session.Session.move_cursor.Goals as goal

pub returns-then-highlight_char : goal.returns-then-highlight_char
returns-then-highlight_char g c hints = record {
  session = c.highlight_char.new.self;
  anew = c.highlight_char.result;
  asked = c.highlight_char.ensures;
  drawn = λ _. c.draw_bare.ensures;
  moved = λ e. absurd (true≢false (sym c.if-highlight_char.true ∙ e));
}

pub returns-else-highlight_char : goal.returns-else-highlight_char
returns-else-highlight_char g c hints = record {
  session = c.highlight_char.new.self;
  anew = c.highlight_char.result;
  asked = c.highlight_char.ensures;
  drawn = λ e. absurd (false≢true (sym c.if-highlight_char.false ∙ e));
  moved = λ _. c.shift_cursor.ensures;
}
