-- `check_text` meets its contract. Assumes nothing.
use Rattle.std.proofs.Common.{◌≡◌, ◌∙◌, ◌++◌, sym, refl, arith, rules, length, take-append-drop}
use Rattle.std.proofs.lemmas.Bool.{eqb-true, eqb-false}
use Rattle.text.specs.Texts.{GoodText}
use Rattle.text.proofs.Cutting.{cut-off, good-all, good-none, good-more}
use Rattle.text.proofs.texts.check_text.Goals as goal

pub loop-rest-init : goal.loop-rest-init
loop-rest-init c = good-none c.args.bytes.now

-- no piece ends at the front of what is left
pub returns-then-is_empty : goal.returns-then-is_empty
returns-then-is_empty c =
    let n = eqb-true (length c.split_at.result.0.now) 0 (sym c.is_empty-in-loop-rest.ensures ∙ c.if-is_empty.true) in
    (refl, λ g. c.piece_len.ensures.2 (omega (arith, n, c.split_at.ensures.front_len)) (omega (arith, eqb-false (length c.loop-rest.rest.now) 0 (sym c.is_empty.ensures ∙ c.loop-rest-test.true))) (c.loop-rest.invariant.left g))

-- a piece is no good text, so the whole is none
pub returns-in_err-check_piece : goal.returns-in_err-check_piece
returns-in_err-check_piece c =
    let n = eqb-false (length c.split_at.result.0.now) 0 (sym c.is_empty-in-loop-rest.ensures ∙ c.if-is_empty.false) in
    let ends = c.piece_len.ensures.1 (omega (arith, n, c.split_at.ensures.front_len)) in
    let bad : GoodText c.args.bytes.now → ⊥ = λ g. c.in_err-check_piece.ensures.1 (cut-off c.loop-rest.rest.now c.split_at.result.0.now c.split_at.result.1.now c.piece_len.result c.split_at.ensures.front c.split_at.ensures.back ends (c.loop-rest.invariant.left g)).0 in
    search rules

pub loop-rest-smaller : goal.loop-rest-smaller
loop-rest-smaller c =
    let n = eqb-false (length c.split_at.result.0.now) 0 (sym c.is_empty-in-loop-rest.ensures ∙ c.if-is_empty.false) in
    omega (arith, n, c.split_at.ensures.front_len, c.split_at.ensures.back_len, c.piece_len.ensures.0)

pub loop-rest-preserved : goal.loop-rest-preserved
loop-rest-preserved c =
    let rest = c.loop-rest.rest.now in
    let k = c.piece_len.result in
    let s = c.split_at.ensures in
    let n = eqb-false (length c.split_at.result.0.now) 0 (sym c.is_empty-in-loop-rest.ensures ∙ c.if-is_empty.false) in
    let ends = c.piece_len.ensures.1 (omega (arith, n, s.front_len)) in
    let parts : rest ≡ c.split_at.result.0.now ++ c.split_at.result.1.now = sym (take-append-drop k rest) ∙ (λ i. sym s.front i ++ sym s.back i) in
    good-more c.args.bytes.now rest c.split_at.result.0.now c.split_at.result.1.now c.loop-rest.invariant parts c.in_ok-check_piece.ensures (λ g. (cut-off rest c.split_at.result.0.now c.split_at.result.1.now k s.front s.back ends g).1)

pub returns : goal.returns
returns c = good-all c.args.bytes.now c.loop-rest.rest.now (eqb-true (length c.loop-rest.rest.now) 0 (sym c.is_empty.ensures ∙ c.loop-rest-test.false)) c.loop-rest.invariant
