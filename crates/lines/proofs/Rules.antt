-- What the rules of lines, notes and notices tell: a rule has one answer, and accepted its needs hold.
use Rattle.std.proofs.Common.{ℕ, ◌+◌, ◌*◌, ◌≤◌, List, length, Some, None}
use Rattle.lines.specs.Lines.{InsertRule, PlaceRule, UpdateRule}
use Rattle.lines.specs.Notes.{NoteRule}
use Rattle.lines.specs.Notices.{NoticeRule}
use Rattle.page.proofs.Needing.{needs-holds, needs-none, needs-once, nothing-some}
use Rattle.page.specs.Rules.{AtBoundary, OneCharacter}
use Rattle.text.specs.Texts.{GoodText}
use Rattle.text.specs.declared.refusal.Refusal.{Refusal}

pub update-fine : (l : List ℕ) (q : ℕ) → UpdateRule l q None → GoodText l × (length l ≤ 4096) × AtBoundary l q
update-fine l q h = let text = needs-none h in let long = needs-none text.1 in (text.0, long.0, needs-holds long.1)

pub place-fine : (l : List ℕ) (q : ℕ) → PlaceRule l q None → AtBoundary l q
place-fine l q h = needs-holds h

pub insert-fine : (l t : List ℕ) (n : ℕ) → InsertRule l t n None → OneCharacter t × (length l + n * length t ≤ 4096)
insert-fine l t n h = let text = needs-none h in (text.0, needs-holds text.1)

pub note-fine : (t : List ℕ) → NoteRule t None → GoodText t × (length t ≤ 1024)
note-fine t h = let text = needs-none h in (text.0, needs-holds text.1)

pub notice-fine : (t : List ℕ) → NoticeRule t None → GoodText t × (length t ≤ 4096)
notice-fine t h = let text = needs-none h in (text.0, needs-holds text.1)

pub update-once : (l : List ℕ) (q : ℕ) (e : Refusal) → UpdateRule l q None → UpdateRule l q (Some e) → ⊥
update-once l q e = needs-once (needs-once (needs-once (λ _. nothing-some e)))

pub place-once : (l : List ℕ) (q : ℕ) (e : Refusal) → PlaceRule l q None → PlaceRule l q (Some e) → ⊥
place-once l q e = needs-once (λ _. nothing-some e)

pub insert-once : (l t : List ℕ) (n : ℕ) (e : Refusal) → InsertRule l t n None → InsertRule l t n (Some e) → ⊥
insert-once l t n e = needs-once (needs-once (λ _. nothing-some e))

pub note-once : (t : List ℕ) (e : Refusal) → NoteRule t None → NoteRule t (Some e) → ⊥
note-once t e = needs-once (needs-once (λ _. nothing-some e))

pub notice-once : (t : List ℕ) (e : Refusal) → NoticeRule t None → NoticeRule t (Some e) → ⊥
notice-once t e = needs-once (needs-once (λ _. nothing-some e))
