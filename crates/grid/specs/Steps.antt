-- What the grid's own steps do to its screen. Assumes nothing.
use Rattle.std.specs.Prelude.{◌≡◌, suc, ◌+◌, ◌-◌, ◌<◌, ◌≤◌, max, Ok, Err, Result}
use Rattle.screen.specs.Screen.{Screen, Geometry, Paper, Pen}
use Rattle.grid.specs.declared.full.Full.{Full}
use Rattle.grid.specs.declared.grid.Grid.{Grid}
use Rattle.grid.specs.Meaning.{shown}

-- another paper, and nothing else
abbrev pub drawn : Paper → Screen → Screen
drawn p s = record { pen = record { paper = p; row = s.pen.row; col = s.pen.col; join = s.pen.join }; top = s.top; held = s.held; parser = s.parser }

-- another pen, and nothing else
abbrev pub penned : Pen → Screen → Screen
penned p s = record { pen = p; top = s.top; held = s.held; parser = s.parser }

-- another pen, and the window moves down just enough to show the cursor
abbrev pub shifted : Geometry → Pen → Screen → Screen
shifted d p s = record { pen = p; top = max s.top (suc p.row - d.rows); held = s.held; parser = s.parser }

-- the grid then shows what f makes of its screen, and has the memory and the size that it had
pub record Does {W : Type 0} (f : Screen → Screen) (g h : Grid W) : Type 0 where
  pub shows : shown h ≡ f (shown g)
  pub depth : h.depth ≡ g.depth
  pub size : h.size ≡ g.size

-- the grid then shows what f makes of its screen; or else nothing changed, since the window of that screen does not lie within the cells
abbrev pub Tries : {W : Type 0} → (Screen → Screen) → Grid W → Grid W → Result (Unit {0}) Full → Type 0
Tries f g h (Ok u) = Does f g h × ((f (shown g)).top + g.size.rows ≤ g.depth)
Tries f g h (Err e) = Does (λ s. s) g h × (g.depth < (f (shown g)).top + g.size.rows)
