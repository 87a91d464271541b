use Rattle.std.proofs.Common.{◌≡◌, [], ◌∷◌, refl, subst}
use Rattle.layout.specs.declared.layout.Position.{Position}
use Rattle.page.specs.Law.{Written}
use Rattle.render.specs.Composing.{composed}
use Rattle.screen.specs.Output.{move_bytes}
use Rattle.session.proofs.session.Session.shift_cursor.Goals as goal

pub returns : goal.returns
returns g c = record {
  written = subst (λ (p : Position). Written g.T.Terminal.answered c.args.terminal.now (move_bytes p.row p.col c.args.place.row c.args.place.col ∷ []) c.move_cursor-moved.result c.move_cursor-moved.new.terminal) c.cursor.ensures c.move_cursor-moved.ensures.written;
  bytes = subst (λ (p : Position). composed c.move_cursor-moved.new.self ≡ move_bytes p.row p.col c.args.place.row c.args.place.col) c.cursor.ensures c.move_cursor-moved.ensures.bytes;
  layout = c.follow-layout.result;
  follows = c.follow-layout.ensures;
  session = c.settle.ensures;
  prompt = refl;
  line = refl;
  note = refl;
  hint = refl;
}
