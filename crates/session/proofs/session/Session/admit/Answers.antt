use Rattle.std.proofs.Common.{◌≡◌, ◌&&◌, false, not, refl, sym, ◌∙◌, inr, arith}
use Rattle.std.proofs.lemmas.Grind.{common_steps}
use Rattle.session.proofs.Sameness.{sizes-alike}
use Rattle.session.specs.Sessions.{is_torn}
use Rattle.session.proofs.session.Session.admit.Goals.{else-eq-via-then-eq+else-not-mends, else-eq-via-else-eq}
use Rattle.session.proofs.session.Session.admit.Goals as goal

pub returns : goal.returns
returns g c =
    let s = c.args.self.now in
    let admitted : (is_torn s.standing && not c.args.mends) ≡ false = elim c.else-eq.branch [ else-eq-via-then-eq+else-not-mends w ↦ grind (arith, common_steps) | else-eq-via-else-eq w ↦ grind (arith, common_steps) ] in
    let fits = sizes-alike c.size.result s.size (sym c.ne.ensures ∙ c.if-ne.false) in
    let began = sizes-alike s.begun s.size (sym c.ne-else-ne.ensures ∙ c.if-ne-2.false) in
    inr (admitted, inr ((sym c.size.ensures ∙ fits, began), refl))
