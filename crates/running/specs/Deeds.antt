-- The acts of a run by the law's words. Assumes nothing.
use Rattle.std.specs.Prelude.{List, [], ◌∷◌}
use Rattle.page.specs.Acts.{Act, clear, finish, go, insert, message, notice, refresh, set}
use Rattle.running.specs.declared.act.Act.TheVariants as act
use Rattle.running.specs.declared.act.Act as declared

-- an act's meaning
abbrev pub deed : declared.Act → Act
deed (act.Insert text count) = insert text.now count
deed (act.Set line pos) = set line.now pos
deed (act.Go pos) = go pos
deed act.Refresh = refresh
deed (act.Message text) = message text.now
deed (act.Notice text) = notice text.now
deed act.Clear = clear
deed act.Finish = finish

-- one after the other
abbrev pub deeds : List declared.Act → List Act
deeds [] = []
deeds (a ∷ rest) = deed a ∷ deeds rest
