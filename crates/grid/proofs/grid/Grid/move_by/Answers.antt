use Rattle.std.proofs.Common.{rules}
use Rattle.screen.specs.Bytes.{move}
use Rattle.grid.proofs.grid.Grid.move_by.Goals as goal

pub returns-in-65 : goal.returns-in-65
unfolding move
returns-in-65 g c = search rules

pub returns-in-66 : goal.returns-in-66
unfolding move
returns-in-66 g c = search rules

pub returns-in-67 : goal.returns-in-67
unfolding move
returns-in-67 g c = search rules

pub returns-in-68 : goal.returns-in-68
unfolding move
returns-in-68 g c = search rules

pub returns-in_default : goal.returns-in_default
unfolding move
returns-in_default g c = search rules
