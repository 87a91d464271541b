-- `char_at` meets its contract. Assumes nothing.
use Rattle.std.proofs.Common.{drop, subst, ◌∙◌, arith, length-drop}
use Rattle.std.proofs.lemmas.List.{take_rest}
use Rattle.text.specs.Decoding.{Decodes}
use Rattle.text.proofs.Decodes.{char-within, no-lead}
use Rattle.text.proofs.decode.char_at.Goals as goal

pub returns-in_err-get-clause-decodes : goal.returns-in_err-get-clause-decodes
returns-in_err-get-clause-decodes c =
    let h = c.in_err-get.ensures.lookup in
    rw c.from_residual.ensures (no-lead (drop c.args.at c.args.bytes.now) (omega (arith, h, length-drop c.args.at c.args.bytes.now)))

pub returns-clause-within : goal.returns-clause-within
returns-clause-within c =
    let h = c.in_ok-get.ensures.lookup.0 in
    char-within c.args.bytes.now c.args.at c.first_char.result h.0 (subst (λ l. Decodes l c.first_char.result) (h.2 ∙ take_rest c.args.bytes.now c.args.at) c.first_char.ensures)
