use Rattle.std.proofs.Common.{sym, arith}
use Rattle.render.proofs.Drawings.{composes, first-length, texts-length}
use Rattle.render.specs.Composing.{composed}
use Rattle.render.specs.Drawing.{StyledTexts, block_texts, now_of}
use Rattle.render.proofs.renderer.PosixRenderer.compose_line.Goals as goal

pub push_styled_texts-requires : goal.push_styled_texts-requires
push_styled_texts-requires g c =
    omega (arith, first-length (now_of c.args.old) (composed c.clear.new.self) (composed c.push_old_rows.new.self) c.clear.ensures c.push_old_rows.ensures)

pub push_place-requires : goal.push_place-requires
push_place-requires g c =
    omega (arith, texts-length (now_of c.args.old) (composed c.clear.new.self) (composed c.push_old_rows.new.self) c.clear.ensures c.push_old_rows.ensures (StyledTexts g.H.Highlighter (now_of c.args.highlighter) (block_texts c.args.block.now)) (composed c.push_styled_texts.new.self) c.push_styled_texts.ensures)

pub returns : goal.returns
returns g c =
    composes (now_of c.args.old) (composed c.clear.new.self) (composed c.push_old_rows.new.self) c.clear.ensures c.push_old_rows.ensures (StyledTexts g.H.Highlighter (now_of c.args.highlighter) (block_texts c.args.block.now)) (composed c.push_styled_texts.new.self) c.push_styled_texts.ensures
    c.args.block.now.layout.now (composed c.push_place.new.self) c.len-erased.result c.push_place.ensures (sym c.len-erased.ensures)
