-- `split_piece` meets its contract. Assumes nothing.
use Rattle.text.proofs.Walks.{piece-style, piece-char, no-piece}
use Rattle.text.proofs.styled.split_piece.Goals as goal

pub returns-in-Some : goal.returns-in-Some
returns-in-Some c = let e = c.split_at.ensures.front in let f = c.split_at.ensures.back in rw (e, f) (piece-char c.args.bytes.now c.in-Some.found c.in-Some.ensures)

pub returns-in_err-past_style : goal.returns-in_err-past_style
returns-in_err-past_style c = rw c.from_residual.ensures (no-piece c.args.bytes.now c.in_err-past_style.ensures c.in_default.ensures)

pub returns : goal.returns
returns c = let h = c.in_ok-past_style.ensures in piece-style _ h.0 _ h.1 h.2
