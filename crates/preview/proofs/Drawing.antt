-- Prompt and caption, written one behind the other.
use Rattle.std.proofs.Common.{◌≡◌, ℕ, List, Ok, Err, Result, ap, ◌∙◌}
use Rattle.page.specs.Law.{done, next, later, broke}
use Rattle.page.specs.declared.outcome.BrokenAct.{BrokenAct}
use Rattle.preview.specs.Previewing.{Draws, numbered}
use Rattle.screen.specs.Bytes.{feed}
use Rattle.screen.specs.Screen.{Geometry, Screen}
use Rattle.terminal.specs.Answers.{WriteAnswer}
use Rattle.terminal.specs.Writing.{Ends, WroteAll}
use Rattle.terminal.specs.declared.writing.BrokenWrite.{BrokenWrite}

module _ {T : Type 0} (answered : T → List ℕ → WriteAnswer → T → Type 0) (screen : T → Screen) (d : Geometry) (prompt caption : List ℕ) where
  -- the first write breaks
  pub first-breaks : (s t : T) (r : Result (Unit {0}) BrokenWrite) (b : BrokenAct) → Err b ≡ numbered 0 r → Ends answered prompt s r t → Draws answered screen d prompt caption s (Err b) t
  first-breaks s t (Ok u) b e h = cc
  first-breaks s t (Err w) b e h = let k : b ≡ record { number = 0; write = w } = cc in rw k (broke h)

  -- the second write, behind the first
  pub second-ends : (s t u : T) (v : Unit {0}) (r q : Result (Unit {0}) BrokenWrite) → Ok v ≡ numbered 0 r → Ends answered prompt s r t → WroteAll d prompt (screen s) r (screen t) → Ends answered caption t q u → WroteAll d caption (screen t) q (screen u) → Draws answered screen d prompt caption s (numbered 1 q) u
  second-ends s t u v (Err w) q e h1 w1 h2 w2 = cc
  second-ends s t u v (Ok x) (Ok y) e h1 w1 h2 w2 = record { writes = next h1 (next h2 done); drawn = w2 ∙ ap (feed d caption) w1 }
  second-ends s t u v (Ok x) (Err w) e h1 w1 h2 w2 = later h1 (broke h2)
