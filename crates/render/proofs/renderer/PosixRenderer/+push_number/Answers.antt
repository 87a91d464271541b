use Rattle.std.proofs.Common.{◌+◌, ◌/◌, ◌%◌, ◌^◌, ◌<◌, [], ◌∷◌, ◌++◌, length, decimal, ap, ◌∙◌, arith}
use Rattle.render.proofs.Buffers.{push-length}
use Rattle.render.proofs.Digits.{front_length, last-behind, only-digit}
use Rattle.render.specs.Composing.{composed}
use Rattle.std.proofs.lemmas.Fmt.{decimal_nonempty}
use Rattle.render.proofs.renderer.PosixRenderer.+push_number.Goals as goal
use Rattle.render.proofs.renderer.PosixRenderer.+push_number.Goals.{else-several, then-several}

pub push_number-requires : goal.push_number-requires
push_number-requires t c =
    let small : c.args.n < 2 ^ 64 = omega arith in
    (omega arith, omega (arith, front_length c.args.n c.if-several.true small))

pub push-requires : goal.push-requires
push-requires t c =
    let n = c.args.n in
    let before = composed c.args.self.now in
    let small : n < 2 ^ 64 = omega arith in
    elim c.if-several.branch [
      | then-several w ↦ omega (arith, push-length (composed c.if-several.self) before (decimal (n / 10)) (ap composed w.self-is ∙ w.push_number.ensures), front_length n w.if-several.true small, c.requires)
      | else-several w ↦ omega (arith, ap (λ r. length (composed r)) w.self-is, decimal_nonempty n small, c.requires)
    ]

pub returns : goal.returns
returns t c =
    let n = c.args.n in
    let before = composed c.args.self.now in
    let small : n < 2 ^ 64 = omega arith in
    c.push.ensures
    ∙ elim c.if-several.branch [
      | then-several w ↦ ap (λ x. x ++ ((48 + n % 10) ∷ [])) (ap composed w.self-is ∙ w.push_number.ensures) ∙ last-behind n w.if-several.true small before
      | else-several w ↦ ap (λ r. composed r ++ ((48 + n % 10) ∷ [])) w.self-is ∙ only-digit n w.if-several.false before
    ]
