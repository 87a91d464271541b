-- What always holds of a line buffer, and what a change leaves.
use Rattle.std.proofs.Common.{◌≡◌, ℕ, ◌+◌, ◌*◌, ◌≤◌, true, List, [], ◌++◌, length, take, drop, refl, sym, ap, ◌∙◌, subst, arith, length-append, length-drop}
use Rattle.buffer.proofs.Buffers.{contents-short}
use Rattle.buffer.proofs.Repeats.{length-repeat}
use Rattle.buffer.specs.Contents.{contents}
use Rattle.buffer.specs.declared.buffer.Buffer.{Buffer}
use Rattle.lines.specs.Lines.{line_of}
use Rattle.lines.specs.declared.line_buffer.LineBuffer.{LineBuffer}
use Rattle.page.proofs.Computing.{good-boundary, good-front}
use Rattle.page.proofs.Spelt.{good_none, insert-boundary, insert-good, one-good}
use Rattle.page.specs.Acts.{times}
use Rattle.page.specs.Rules.{AtBoundary, OneCharacter}
use Rattle.std.proofs.lemmas.List.{length-take-le}
use Rattle.std.specs.List.{repeat}
use Rattle.text.proofs.Testing.{good-bytes, good-text}
use Rattle.text.specs.Tests.{good_bytes}
use Rattle.text.specs.Texts.{GoodText}

pub line-short : (b : LineBuffer) → length (line_of b) ≤ 4096
line-short b = contents-short b.line

pub line-good : (b : LineBuffer) → GoodText (line_of b)
line-good b = good-text (line_of b) b.good

-- the edit position is not past the line nor inside a character
pub line-place : (b : LineBuffer) → AtBoundary (line_of b) b.pos
line-place b = good-boundary (line_of b) b.pos b.front b.inside

-- a text so many times, in the library's word
pub times-repeat : (n : ℕ) (t : List ℕ) → repeat n t ≡ times n t
times-repeat n t = refl

-- what a line buffer must know of a line and a position
abbrev pub Sound : Buffer 4096 → ℕ → Type 0
Sound held pos = record { good : good_bytes (contents held) ≡ true; inside : pos ≤ length (contents held); front : good_bytes (take pos (contents held)) ≡ true }

pub sound : (held : Buffer 4096) (line : List ℕ) (pos : ℕ) → contents held ≡ line → GoodText line → AtBoundary line pos → Sound held pos
sound held line pos e good place =
    let g = ap good_bytes e ∙ good-bytes line good in
    record { good = g; inside = omega (arith, ap length e, place.0); front = good-front (contents held) pos g (subst (λ l. AtBoundary l pos) (sym e) place) }

pub nothing_good : good_bytes [] ≡ true
nothing_good = good-bytes [] good_none

-- a line with characters put in is a good text, and the position behind them is a place in it
pub inserted : (b : LineBuffer) (t : List ℕ) (n : ℕ) (held : Buffer 4096) (pos : ℕ) → OneCharacter t → contents held ≡ take b.pos (line_of b) ++ (repeat n t ++ drop b.pos (line_of b)) → pos ≡ b.pos + n * length t → Sound held pos
inserted b t n held pos o e at =
    let put = e ∙ ap (λ x. take b.pos (line_of b) ++ (x ++ drop b.pos (line_of b))) (times-repeat n t) in
    let one = one-good t o in
    sound held _ pos put (insert-good (line_of b) t b.pos n (line-good b) (line-place b) one) (rw at (insert-boundary (line_of b) t b.pos n (line-good b) (line-place b) one))

pub inserted-short : (b : LineBuffer) (t : List ℕ) (n : ℕ) → length (line_of b) + n * length t ≤ 4096 → length (take b.pos (line_of b) ++ (repeat n t ++ drop b.pos (line_of b))) ≤ 4096
inserted-short b t n room =
    let rest = drop b.pos (line_of b) in
    let put = length-append (take b.pos (line_of b)) (repeat n t ++ rest) in
    omega (arith, room, put, length-append (repeat n t) rest, length-repeat n t, length-take-le b.pos (line_of b) b.inside, length-drop b.pos (line_of b), b.inside)
