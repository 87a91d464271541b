-- The number of a broken write among the writes of an act. Assumes nothing.
use Rattle.std.specs.Prelude.{◌≡◌, ℕ, ◌+◌, Bool, true, false, List, [], ◌∷◌, ◌++◌, map, length, Ok, Err, Result}
use denote.Ref.{Bor}
use Rattle.page.specs.Law.{Written}
use Rattle.page.specs.declared.outcome.BrokenAct.{BrokenAct}
use Rattle.terminal.specs.Answers.{WriteAnswer}

-- a broken write, with so many writes before its act's own
abbrev pub shifted_act : ℕ → BrokenAct → BrokenAct
shifted_act k b = record { number = k + b.number; write = b.write }

-- the end of some writes, with so many writes before them
abbrev pub shifted : ℕ → Result Unit BrokenAct → Result Unit BrokenAct
shifted k (Ok u) = Ok tt
shifted k (Err b) = Err (shifted_act k b)

-- the bytes of some pieces
abbrev pub bytes_of : List (Bor (List ℕ)) → List (List ℕ)
bytes_of ps = map (λ p. p.now) ps

-- so many writes begin an update
abbrev pub marks : Bool → ℕ
marks true = 1
marks false = 0

module _ {T : Type 0} (answered : T → List ℕ → WriteAnswer → T → Type 0) where
  -- some writes behind so many others: any of that number, all taken, go on with them
  abbrev pub FollowAll : ℕ → T → List (List ℕ) → Result Unit BrokenAct → T → Type 0
  FollowAll n before more r after = (s : T) (ws : List (List ℕ)) → length ws ≡ n → Written answered s ws (Ok tt) before → Written answered s (ws ++ more) r after

  -- a write behind so many others
  abbrev pub Follows : ℕ → T → List ℕ → Result Unit BrokenAct → T → Type 0
  Follows n before bytes r after = FollowAll n before (bytes ∷ []) r after
