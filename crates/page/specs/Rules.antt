-- When an act is refused, and by which number. Assumes nothing.
use Rattle.std.specs.Prelude.{◌≡◌, ℕ, ◌+◌, ◌*◌, ◌<◌, ◌≤◌, Bool, true, false, not, ◌&&◌, ◌⊎◌, List, [], ◌++◌, length, take, Some, None, Ok, Err, IsUtf8, Option, Result}
use Rattle.std.proofs.Math.Utf8.{encode}
use Rattle.page.specs.Acts.{Act, clear, create, finish, go, insert, line_after, message, notice, refresh, set}
use Rattle.page.specs.Page.{Page}
use Rattle.page.specs.declared.outcome.Rejection.{Rejection}
use Rattle.screen.specs.Screen.{Geometry, block, place_row}
use Rattle.std.specs.Str.{chars}
use Rattle.text.specs.Characters.{Good}
use Rattle.text.specs.Texts.{GoodText}
use Rattle.text.specs.declared.refusal.Refusal.{Refusal}
use Rattle.text.specs.declared.refusal.Refusal.TheVariants.{Long, Place, Tall, Text, Torn}
use Rattle.text.specs.declared.refusal.Refusal.TheVariants as refusal

-- an act needs Q: where that fails its refusal comes, where it holds the rest decides
abbrev pub Needs : Type 0 → Refusal → (Option Refusal → Type 0) → Option Refusal → Type 0
Needs Q e rest r = ((Q → ⊥) × (r ≡ Some e)) ⊎ (Q × rest r)

abbrev pub NothingElse : Option Refusal → Type 0
NothingElse r = r ≡ None

-- the refusal that a result gives, or none
abbrev pub refused_by : {A : Type 0} → Result A Refusal → Option Refusal
refused_by (Ok a) = None
refused_by (Err e) = Some e

-- clear alone mends a torn session; create begins one
abbrev pub mends : Act → Bool
mends create = true
mends (insert c n) = false
mends (set l q) = false
mends (go q) = false
mends refresh = false
mends (message t) = false
mends (notice t) = false
mends clear = true
mends finish = false

-- one good character
abbrev pub OneCharacter : List ℕ → Type 0
OneCharacter bs = (c : ℕ) × Good c × (encode c ≡ bs)

-- the text that an act brings is good
abbrev pub TextFine : Act → Type 0
TextFine create = Unit {0}
TextFine (insert c n) = OneCharacter c
TextFine (set l q) = GoodText l
TextFine (go q) = Unit {0}
TextFine refresh = Unit {0}
TextFine (message t) = GoodText t
TextFine (notice t) = GoodText t
TextFine clear = Unit {0}
TextFine finish = Unit {0}

-- a line or notice has at most 4,096 bytes, a message 1,024
abbrev pub LengthFine : Act → Page → Type 0
LengthFine create p = Unit {0}
LengthFine (insert c n) p = length p.line + n * length c ≤ 4096
LengthFine (set l q) p = length l ≤ 4096
LengthFine (go q) p = Unit {0}
LengthFine refresh p = Unit {0}
LengthFine (message t) p = length t ≤ 1024
LengthFine (notice t) p = length t ≤ 4096
LengthFine clear p = Unit {0}
LengthFine finish p = Unit {0}

-- the position is not past the line nor inside a character
abbrev pub AtBoundary : List ℕ → ℕ → Type 0
AtBoundary l q = (q ≤ length l) × IsUtf8 (take q l)

abbrev pub PlaceFine : Act → Page → Type 0
PlaceFine create p = Unit {0}
PlaceFine (insert c n) p = Unit {0}
PlaceFine (set l q) p = AtBoundary l q
PlaceFine (go q) p = AtBoundary p.line q
PlaceFine refresh p = Unit {0}
PlaceFine (message t) p = Unit {0}
PlaceFine (notice t) p = Unit {0}
PlaceFine clear p = Unit {0}
PlaceFine finish p = Unit {0}

-- the act's message
abbrev pub message_of : Act → List ℕ
message_of create = []
message_of (insert c n) = []
message_of (set l q) = []
message_of (go q) = []
message_of refresh = []
message_of (message t) = t
message_of (notice t) = []
message_of clear = []
message_of finish = []

-- prompt, line and the act's message are not higher than the window
abbrev pub HeightFine : Geometry → List ℕ → Act → Page → Type 0
HeightFine d prompt a p = place_row d (block d (prompt ++ (chars (line_after a p) ++ chars (message_of a)))) < d.rows

-- the refusal of an act, or none: 7 first, then 1, 3, 4, 5 and 6
abbrev pub Refuses : Geometry → List ℕ → Bool → Type 0 → Act → Page → Option Refusal → Type 0
Refuses d prompt torn SizeFine a p =
    Needs ((torn && not (mends a)) ≡ false) refusal.Torn
    (Needs SizeFine refusal.Size
    (Needs (TextFine a) refusal.Text
    (Needs (LengthFine a p) refusal.Long
    (Needs (PlaceFine a p) refusal.Place
    (Needs (HeightFine d prompt a p) refusal.Tall NothingElse)))))

-- how an act ends
abbrev pub Outcome : Type 0
Outcome = Result Unit Rejection
