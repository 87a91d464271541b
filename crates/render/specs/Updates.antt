-- Updates that a terminal holds back. Assumes nothing.
use Rattle.std.specs.Prelude.{◌≡◌, Bool, Ok, Err, Result}
use Rattle.page.specs.declared.outcome.BrokenAct.{BrokenAct}
use Rattle.render.specs.declared.update.SynchronizedUpdate.{SynchronizedUpdate}

-- how a begin ended, whatever it made
abbrev pub forgotten : Result SynchronizedUpdate BrokenAct → Result Unit BrokenAct
forgotten (Ok u) = Ok tt
forgotten (Err b) = Err b

-- a begun update remembers whether it is held
abbrev pub Remembers : Bool → Result SynchronizedUpdate BrokenAct → Type 0
Remembers holds (Ok u) = u.held ≡ holds
Remembers holds (Err b) = Unit {0}
