-- When a session takes an act. Assumes nothing.
use Rattle.std.specs.Prelude.{◌≡◌, Bool, false, not, ◌&&◌, Ok, Err, Option, Result}
use Rattle.measuring.specs.declared.measuring.Window.{Window}
use Rattle.page.specs.Rules.{Needs, NothingElse}
use Rattle.session.specs.Sessions.{is_torn}
use Rattle.session.specs.declared.session.Session.{Session}
use Rattle.session.specs.declared.standing.Standing.{Standing}
use Rattle.session.specs.declared.standing.Standing.TheVariants as standing
use Rattle.terminal.specs.declared.size.Size.{Size}
use Rattle.text.specs.declared.refusal.Refusal.{Refusal}
use Rattle.text.specs.declared.refusal.Refusal.TheVariants as refusal

-- not torn, unless the act mends it; and the act's terminal and that of create of the checked size
abbrev pub Admits : Session → Size → Bool → Option Refusal → Type 0
Admits s extent mends =
    Needs ((is_torn s.standing && not mends) ≡ false) refusal.Torn
    (Needs ((extent ≡ s.size) × (s.begun ≡ s.size)) refusal.Size NothingElse)

-- the checked size, and where the prompt ends
abbrev pub window_of : Session → Window
window_of s = record { size = s.size; prompt = s.prompt }

-- the refusal of a prompt that is too high
abbrev pub height_of : Standing → Result Unit Refusal
height_of standing.Tall = Err refusal.Tall
height_of standing.Open = Ok tt
height_of standing.Torn = Ok tt
