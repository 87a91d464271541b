use Rattle.std.proofs.Common.{◌-◌, ◌≤◌, [], ◌∷◌, ap, arith}
use Rattle.render.proofs.Buffers.{push-length}
use Rattle.render.proofs.Moves.{closing-length, some-length}
use Rattle.render.specs.Composing.{composed, some_move}
use Rattle.screen.specs.Output.{closing}
use Rattle.render.proofs.renderer.PosixRenderer.push_place.Goals as goal

pub push_some_move-requires : goal.push_some_move-requires
push_some_move-requires c =
    let end = c.end-end.result in
    let cursor = c.cursor-cursor.result in
    let low : end.row ≤ 199 = omega (arith, ap (λ p. p.row) c.end-end.ensures, c.args.layout.now.low) in
    omega (arith, push-length (composed c.push_closing.new.self) (composed c.args.self.now) (closing c.full.result) c.push_closing.ensures, closing-length c.full.result, some-length 65 (end.row - cursor.row) (omega arith), c.requires)

pub push-requires : goal.push-requires
push-requires c =
    let end = c.end-end.result in
    let cursor = c.cursor-cursor.result in
    let low : end.row ≤ 199 = omega (arith, ap (λ p. p.row) c.end-end.ensures, c.args.layout.now.low) in
    omega (arith, push-length (composed c.push_closing.new.self) (composed c.args.self.now) (closing c.full.result) c.push_closing.ensures, push-length (composed c.push_some_move.new.self) (composed c.push_closing.new.self) (some_move 65 (end.row - cursor.row)) c.push_some_move.ensures, closing-length c.full.result, some-length 65 (end.row - cursor.row) (omega arith), c.requires)

pub push_some_move-requires-2 : goal.push_some_move-requires-2
push_some_move-requires-2 c =
    let end = c.end-end.result in
    let cursor = c.cursor-cursor.result in
    let low : end.row ≤ 199 = omega (arith, ap (λ p. p.row) c.end-end.ensures, c.args.layout.now.low) in
    let within : cursor.col ≤ 499 = omega (arith, ap (λ p. p.col) c.cursor-cursor.ensures, c.args.layout.now.within) in
    omega (arith, push-length (composed c.push_closing.new.self) (composed c.args.self.now) (closing c.full.result) c.push_closing.ensures, push-length (composed c.push_some_move.new.self) (composed c.push_closing.new.self) (some_move 65 (end.row - cursor.row)) c.push_some_move.ensures, push-length (composed c.push.new.self) (composed c.push_some_move.new.self) (13 ∷ []) c.push.ensures, closing-length c.full.result, some-length 65 (end.row - cursor.row) (omega arith), some-length 67 cursor.col (omega arith), c.requires)
