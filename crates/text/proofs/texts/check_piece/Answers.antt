-- `check_piece` meets its contract. Assumes nothing.
use Rattle.std.proofs.Common.{◌∙◌, refl, rules}
use Rattle.std.proofs.lemmas.Bool.Decides.{not_from_Decides}
use Rattle.std.proofs.lemmas.Iterator.{cases_from_all, YieldsList-from_chars}
use Rattle.text.specs.Characters.{Good}
use Rattle.text.proofs.Spelling.{good-text-utf8}
use Rattle.text.proofs.Testing.{all-told}
use Rattle.text.proofs.texts.check_piece.Goals as goal

pub returns-in-Ok : goal.returns-in-Ok
returns-in-Ok c =
    let t = c.in-Ok.ensures.cases in
    let k = cases_from_all _ _ c.all.result Good (λ x. Good x → ⊥) c.all.ensures.ran (YieldsList-from_chars c.args.bytes.now t.1 (c.chars.ensures.rest ∙ t.0)) (λ x q k. search rules) (λ x q k. search rules) in
    (all-told c.args.bytes.now t.1 c.all.result k).0 c.if-all.true

pub returns-in_default : goal.returns-in_default
returns-in_default c =
    let t = c.in-Ok.ensures.cases in
    let k = cases_from_all _ _ c.all.result Good (λ x. Good x → ⊥) c.all.ensures.ran (YieldsList-from_chars c.args.bytes.now t.1 (c.chars.ensures.rest ∙ t.0)) (λ x q k. search rules) (λ x q k. search rules) in
    (refl, not_from_Decides c.all.result (all-told c.args.bytes.now t.1 c.all.result k) c.if-all.false)

pub returns-in_default-2 : goal.returns-in_default-2
returns-in_default-2 c = let h = rw c.in_default.is at c.from_utf8.ensures.cases in (refl, λ g. h.0 (good-text-utf8 c.args.bytes.now g))
