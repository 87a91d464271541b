-- A session performing acts. Assumes nothing.
use Rattle.std.specs.Prelude.{◌≡◌, ℕ, false, Some, None, Option}
use Rattle.page.specs.Acts.{Act, finish}
use Rattle.page.specs.Law.{Settings, World}
use Rattle.page.specs.Rules.{Outcome}
use Rattle.page.specs.Runs.{closes}
use Rattle.session.specs.Acting.{Acted}
use Rattle.session.specs.Sessions.{Sound, State, settings_of}
use Rattle.session.specs.declared.session.Session.{Session}
use Rattle.session.specs.declared.tables.Tables.{Tables}

-- a session that lives on belongs to its tables, and has what was settled
abbrev pub Kept : (ℕ → ℕ) → Settings → Option Session → Tables → Type 0
Kept w z (Some s) b = Sound w s b × (settings_of s b ≡ z)
Kept w z None b = Unit {0}

module _ {T H : Type 0} (w : World T H) where
  -- an act of a session that lives on; none where the act was a finish, with nothing done
  abbrev pub Performed : State T H → Act → Option Outcome → State T H → Type 0
  Performed x a (Some r) y = Acted w x a r y × (closes a r ≡ false)
  Performed x a None y = (a ≡ finish) × (y ≡ x)
