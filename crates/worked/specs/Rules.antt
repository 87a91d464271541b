-- When acts are refused, at five columns by the Latin table behind the prompt `> `. Assumes nothing.
use Rattle.std.specs.Prelude.{◌≡◌, ℕ, ◌<◌, Bool, true, false, List, [], ◌∷◌, length, Some, None, Option, codes}
use Rattle.page.specs.Acts.{Act, clear, create, finish, go, insert, message, notice, refresh, set}
use Rattle.page.specs.Page.{Page}
use Rattle.page.specs.Rules.{AtBoundary, LengthFine, PlaceFine, Refuses}
use Rattle.text.specs.Texts.{GoodText}
use Rattle.text.specs.declared.refusal.Refusal.{Refusal}
use Rattle.text.specs.declared.refusal.Refusal.TheVariants as refusal
use Rattle.worked.specs.Pages.{high, middle, short}

-- the refusal of an act in a window of so many rows, or none
abbrev pub RefusedIn : ℕ → Bool → Type 0 → Act → Page → Option Refusal → Type 0
RefusedIn n torn SizeFine a p r = Refuses (high n) (codes "> ") torn SizeFine a p r

-- a character of two bytes
abbrev pub acute_e : List ℕ
acute_e = 195 ∷ 169 ∷ []

module _ (p : Page) where
  -- 7 comes first, and create and clear are not refused by it; then come 1, 3, 4, 5 and 6
  pub record WorkedRefusals : Type 0 where
    pub torn-first : RefusedIn 24 true ⊥ (message (27 ∷ [])) p (Some refusal.Torn)
    pub torn-finish : RefusedIn 24 true (Unit {0}) finish p (Some refusal.Torn)
    pub torn-create : RefusedIn 24 true ⊥ create p (Some refusal.Size)
    pub torn-clear : RefusedIn 24 true ⊥ clear p (Some refusal.Size)
    pub size-second : RefusedIn 24 false ⊥ (message (27 ∷ [])) p (Some refusal.Size)
    pub text-third : (t : List ℕ) → (GoodText t → ⊥) → 4096 < length t → RefusedIn 24 false (Unit {0}) (notice t) p (Some refusal.Text)
    pub long-fourth : (l : List ℕ) (q : ℕ) → GoodText l → 4096 < length l → (AtBoundary l q → ⊥) → RefusedIn 24 false (Unit {0}) (set l q) p (Some refusal.Long)
    pub place-fifth : RefusedIn 1 false (Unit {0}) (go 9) (middle p) (Some refusal.Place)
    pub tall-sixth : RefusedIn 1 false (Unit {0}) refresh (middle p) (Some refusal.Tall)
    pub tall-message : GoodText (codes "bc") → RefusedIn 1 false (Unit {0}) (message (codes "bc")) (short p) (Some refusal.Tall)
    pub create-fine : RefusedIn 1 false (Unit {0}) create (middle p) None
    pub fine-alone : (r : Option Refusal) → GoodText (codes "b") → RefusedIn 1 false (Unit {0}) (message (codes "b")) (short p) r → r ≡ None
    pub fine : GoodText (codes "b") → RefusedIn 1 false (Unit {0}) (message (codes "b")) (short p) None

  -- a line or notice of 4,096 bytes is fine, a message of 1,024, and a position at the line's end; more is not, nor a position inside a character
  pub record WorkedLimits : Type 0 where
    pub longest-line : (l : List ℕ) (q : ℕ) → length l ≡ 4096 → LengthFine (set l q) p
    pub longer-line : (l : List ℕ) (q : ℕ) → length l ≡ 4097 → LengthFine (set l q) p → ⊥
    pub longest-insert : LengthFine (insert acute_e 2046) (middle p)
    pub longer-insert : LengthFine (insert acute_e 2047) (middle p) → ⊥
    pub longest-message : (t : List ℕ) → length t ≡ 1024 → LengthFine (message t) p
    pub longer-message : (t : List ℕ) → length t ≡ 1025 → LengthFine (message t) p → ⊥
    pub longest-notice : (t : List ℕ) → length t ≡ 4096 → LengthFine (notice t) p
    pub longer-notice : (t : List ℕ) → length t ≡ 4097 → LengthFine (notice t) p → ⊥
    pub place-inside : PlaceFine (set acute_e 1) p → ⊥
    pub place-end : PlaceFine (set (codes "abc") 3) p
    pub place-past : PlaceFine (set (codes "abc") 4) p → ⊥

  -- the examples of this file
  pub record WorkedRules : Type 0 where
    pub refusals : WorkedRefusals
    pub limits : WorkedLimits
