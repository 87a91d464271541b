-- Answers that show the given text. Assumes nothing.
use Rattle.std.specs.Prelude.{◌≡◌, ℕ, ◌+◌, ◌<◌, true, List, ◌∷◌, ◌++◌, length, take, drop, Some, None, codes, Option, slice_index, slice_index_or, refl}
use Rattle.std.proofs.Common.{sym, ap, subst, ◌∙◌, arith, length-append, length-take, length-drop}
use Rattle.std.proofs.Math.Utf8.{encode}
use Rattle.std.proofs.lemmas.List.{take-append-drop, drop_more}
use Rattle.std.proofs.lemmas.Str.{encode_ascii, IsCharBoundary-before_ascii}
use Rattle.text.specs.Characters.{Good}
use Rattle.text.specs.Texts.{Spells, GoodText, Styled, shows, dyes, style, plain}
use Rattle.text.proofs.Spelling.{good-text-cut, good-text-past, spells-append, spells-same}
use Rattle.text.proofs.Styling.{spells-styled, styled-append}
use Rattle.highlight.specs.declared.brackets.Bracket.{Bracket}
use Rattle.highlight.specs.Answers.{Shows}
use Rattle.highlight.specs.Lighting.{lit, to_light}
use Rattle.highlight.specs.Partners.{Stands, to_light-stands}

-- the text itself
pub same-shown : {cs text lit : List ℕ} → Styled text cs → lit ≡ text → Shows cs text lit
same-shown {cs} {text} {lit} s e = record { visible = subst (λ l. Styled l cs) (sym e) s; short = omega (arith, ap length e) }

-- an ASCII byte of a good text is a character of its own
module _ (line cs : List ℕ) (s : Spells line cs) (at : ℕ) (within : at < length line) (ascii : slice_index_or line at 0 < 128) where
  char-from : drop at line ≡ encode (slice_index line at) ++ drop (at + 1) line
  char-from = drop_more line at 0 within ∙ ap (λ l. l ++ drop (at + 1) line) (sym (encode_ascii (slice_index line at) ascii))

  cut : GoodText (take at line) × GoodText (drop at line)
  cut = good-text-cut line at (cs, s) (IsCharBoundary-before_ascii line at within ascii)

  past : Good (slice_index line at) × GoodText (drop (at + 1) line)
  past = good-text-past (slice_index line at) (drop (at + 1) line) (subst GoodText char-from cut.1)

  abbrev front : List ℕ
  front = cut.0.0

  abbrev back : List ℕ
  back = past.1.0

  characters : front ++ (slice_index line at ∷ back) ≡ cs
  characters =
      let rest : Spells (drop at line) (slice_index line at ∷ back) = ((past.0, past.1.1.0), ap (λ l. encode (slice_index line at) ++ l) past.1.1.1 ∙ sym char-from) in
      spells-same line (front ++ (slice_index line at ∷ back)) cs (subst (λ l. Spells l (front ++ (slice_index line at ∷ back))) (take-append-drop at line) (spells-append (take at line) (drop at line) front (slice_index line at ∷ back) cut.0.1 rest)) s

  -- so style sequences may stand around it
  pub dyed : (ps qs : List ℕ) → plain ps ≡ true → plain qs ≡ true → Styled (take at line ++ (style ps ++ (slice_index line at ∷ (style qs ++ drop (at + 1) line)))) cs
  dyed ps qs p q =
      let behind = dyes qs q (spells-styled (drop (at + 1) line) back past.1.1) in
      let lit = subst (λ l. Styled (l ++ (style qs ++ drop (at + 1) line)) (slice_index line at ∷ back)) (encode_ascii (slice_index line at) ascii) (shows (slice_index line at) past.0 behind) in
      subst (Styled (take at line ++ (style ps ++ (slice_index line at ∷ (style qs ++ drop (at + 1) line))))) characters (styled-append (spells-styled (take at line) front cut.0.1) (dyes ps p lit))

-- a line with a bracket lit shows the line
pub lit-shown : (line cs : List ℕ) (m : Bracket) → Spells line cs → Stands line m → Shows cs line (lit line (Some m))
lit-shown line cs m s at =
    record {
      visible = subst (λ b. Styled (take m.at line ++ (style (codes "1;34") ++ (b ∷ (style (codes "0") ++ drop (m.at + 1) line)))) cs) at.byte (dyed line cs s m.at at.within (omega (arith, at.byte, at.ascii)) (codes "1;34") (codes "0") refl refl);
      short = simp (length-append, length-take, length-drop) (omega arith);
    }

pub memory-shown : (memory : Option Bracket) (line cs answer : List ℕ) → Spells line cs → answer ≡ lit line (to_light memory line) → Shows cs line answer
memory-shown memory line cs answer s e = by (to_light memory line) refl
  where
    by : (o : Option Bracket) → to_light memory line ≡ o → Shows cs line answer
    by None p = same-shown (spells-styled line cs s) (e ∙ ap (lit line) p)
    by (Some m) p = subst (Shows cs line) (sym (e ∙ ap (lit line) p)) (lit-shown line cs m s (to_light-stands memory line m p))
