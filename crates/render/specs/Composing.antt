-- The bytes that a renderer has composed. Assumes nothing.
use Rattle.std.specs.Prelude.{ℕ, zero, suc, List, []}
use Rattle.buffer.specs.Contents.{contents}
use Rattle.screen.specs.Output.{move_by}
use Rattle.render.specs.declared.renderer.PosixRenderer.{PosixRenderer}

-- the bytes composed last
abbrev pub composed : PosixRenderer → List ℕ
composed r = contents r.buffer

-- a move by a number, nothing for 0
abbrev pub some_move : ℕ → ℕ → List ℕ
some_move b zero = []
some_move b (suc n) = move_by b (suc n)
