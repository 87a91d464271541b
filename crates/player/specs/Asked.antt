-- Which act of a session an act of a script is. Assumes nothing.
use Rattle.std.specs.Prelude.{Some, None, Option, vec_items}
use Rattle.page.specs.Acts.{Act, insert, set, go, refresh, message, notice, clear, finish}
use Rattle.script.specs.declared.act.ScriptAct.{ScriptAct}
use Rattle.script.specs.declared.act.ScriptAct.TheVariants as acts

-- the act that is asked of a session: none for create, which begins one
abbrev pub asked : ScriptAct → Option Act
asked acts.Create = None
asked (acts.Insert text times) = Some (insert (vec_items text) times)
asked (acts.Set line pos) = Some (set (vec_items line) pos)
asked (acts.Go pos) = Some (go pos)
asked acts.Refresh = Some refresh
asked (acts.Message text) = Some (message (vec_items text))
asked (acts.Notice text) = Some (notice (vec_items text))
asked acts.Clear = Some clear
asked acts.Finish = Some finish
