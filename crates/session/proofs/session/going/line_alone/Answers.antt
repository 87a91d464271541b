use Rattle.session.proofs.Going.{alone-laid, alone-refused}
use Rattle.session.proofs.session.going.line_alone.Goals as goal

pub returns-in-Ok : goal.returns-in-Ok
returns-in-Ok g c = alone-laid g.W.WidthTable.columns c.args.window.prompt c.args.window.size c.args.line.now c.in-Ok.placed c.in-Ok.ensures

pub returns-in-Err : goal.returns-in-Err
returns-in-Err g c = alone-refused g.W.WidthTable.columns c.args.window.prompt c.args.window.size c.args.line.now c.in-Err.field-0 c.origin.result c.in-Err.ensures
