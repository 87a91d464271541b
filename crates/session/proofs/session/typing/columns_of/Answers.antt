use Rattle.std.proofs.Common.{ℕ, ◌∙◌, subst, sym}
use Rattle.session.proofs.Letters.{columns-found, columns-none}
use Rattle.session.specs.Typing.{ColumnsOf}
use Rattle.session.proofs.session.typing.columns_of.Goals as goal

pub returns-in-Some : goal.returns-in-Some
returns-in-Some g c =
    subst (λ (n : ℕ). ColumnsOf g.W.WidthTable.columns c.args.text.now n) (sym (c.from.ensures ∙ c.width.ensures))
    (columns-found g.W.WidthTable.columns c.args.text.now c.in-Some.found (rw c.in-Some.is at c.char_at.ensures.decodes))

pub returns-in-None : goal.returns-in-None
returns-in-None g c = columns-none g.W.WidthTable.columns c.args.text.now (rw c.in-None.is at c.char_at.ensures.decodes)
