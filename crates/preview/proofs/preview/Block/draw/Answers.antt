use Rattle.std.proofs.Common.{subst}
use Rattle.std.proofs.lemmas.Result.{err_from_is_err_and}
use Rattle.preview.proofs.Drawing.{first-breaks, second-ends}
use Rattle.terminal.specs.Windows.{geometry}
use Rattle.terminal.specs.Writing.{WroteAll}
use Rattle.terminal.specs.declared.size.Size.{Size}
use Rattle.preview.proofs.preview.Block.draw.Goals as goal

pub returns-in_err-numbered : goal.returns-in_err-numbered
returns-in_err-numbered g c =
    let d = geometry g.T.Widths.WidthTable.columns (g.T.Terminal.extent c.args.terminal.now) in
    let p = err_from_is_err_and c.from_residual.result c.from_residual.ensures.1 in
    rw (p.1, p.2) (first-breaks g.T.Terminal.answered g.T.Terminal.screen d c.args.self.now.prompt.now c.args.self.now.caption.now c.args.terminal.now c.write_all.new.terminal c.write_all.result c.in_err-numbered.field-0.0 c.in_err-numbered.ensures c.write_all.ensures.ends)

pub returns : goal.returns
returns g c =
    let d = geometry g.T.Widths.WidthTable.columns (g.T.Terminal.extent c.args.terminal.now) in
    let wrote =
    subst (λ (z : Size). WroteAll (geometry g.T.Widths.WidthTable.columns z) c.args.self.now.caption.now (g.T.Terminal.screen c.write_all.new.terminal) c.write_all-2.result (g.T.Terminal.screen c.write_all-2.new.terminal)) c.write_all.ensures.fixed c.write_all-2.ensures.wrote in
    rw c.numbered-2.ensures
    (second-ends g.T.Terminal.answered g.T.Terminal.screen d c.args.self.now.prompt.now c.args.self.now.caption.now c.args.terminal.now c.write_all.new.terminal c.write_all-2.new.terminal tt c.write_all.result c.write_all-2.result c.in_ok-numbered.ensures c.write_all.ensures.ends c.write_all.ensures.wrote c.write_all-2.ensures.ends wrote)
