-- A walk over a styled text, piece by piece. Assumes nothing.
use Rattle.std.proofs.Common.{◌≡◌, ℕ, ◌+◌, ◌-◌, ◌<◌, ◌≤◌, true, List, [], ◌∷◌, ◌++◌, length, take, drop, Some, None, Ok, Err, Result, sym, refl, ap, ◌∙◌, subst, ⊎_elim, append-nil, append_assoc, arith, length-append}
use borrow.Rule.Slice.PartMut.{put_mid}
use lib.Utf8.{encode, encodes}
use Rattle.std.proofs.lemmas.List.{take_at, drop-drop}
use Rattle.std.proofs.lemmas.Slice.{take-put_mid, drop-put_mid}
use Rattle.std.proofs.lemmas.Str.{encodes-append, length-encode, len_utf8_bounds}
use Rattle.std.specs.Result.{result_or}
use Rattle.text.specs.Checks.{GivesVisible, ShowsPrompt}
use Rattle.text.specs.Pieces.{GoodFront, PieceFront, VisibleFits}
use Rattle.text.specs.Texts.{plain, style, Styled, ends, shows, dyes, StyledText}
use Rattle.text.specs.declared.decode.Decoded.{Decoded}
use Rattle.text.specs.declared.refusal.Refusal.{Refusal}
use Rattle.text.specs.declared.refusal.Refusal.TheVariants.{Prompt}
use Rattle.text.proofs.Spelling.{good-not-esc}
use Rattle.text.proofs.Styling.{Begins, nowhere, character, sequence, styled-append, styled-begins, styled-char, styled-longer, styled-same, styled-style}

-- a piece at the front
pub piece-style : (bs ps rest : List ℕ) → plain ps ≡ true → bs ≡ style ps ++ rest → PieceFront bs [] rest
piece-style bs ps rest h e = record {
  piece = style ps;
  characters = [];
  bytes = e;
  some = omega arith;
  styled = subst (λ l. Styled l []) (append-nil (style ps)) (dyes ps h ends);
  visible = refl;
  after = λ s. (s.0, styled-style s.1 ps rest h e);
}

pub piece-char : (bs : List ℕ) (d : Decoded) → GoodFront bs (Some d) → PieceFront bs (take d.len bs) (drop d.len bs)
piece-char bs d f =
    let c = d.code in record {
      piece = encode c;
      characters = c ∷ [];
      bytes = f.1.bytes;
      some = omega (arith, length-encode c, len_utf8_bounds c);
      styled = subst (λ l. Styled l (c ∷ [])) (append-nil (encode c)) (shows c f.0 ends);
      visible = ap (take d.len) f.1.bytes ∙ take_at (encode c) (drop d.len bs) d.len (sym f.1.len) ∙ sym (append-nil (encode c));
      after = λ s. let k = (styled-char s.1 c (drop d.len bs) f.1.bytes (good-not-esc c f.0)).1 in (k.0, k.2);
    }

-- no piece is at the front
pub no-piece : (bs : List ℕ) → ((ps rest : List ℕ) → plain ps ≡ true → bs ≡ style ps ++ rest → ⊥) → GoodFront bs None → 0 < length bs → StyledText bs → ⊥
no-piece bs n g h s = by (styled-begins s.1)
  where
    by : Begins bs s.0 → ⊥
    by (nowhere p q) = omega (arith, ap length p)
    by (character k) = g k.code k.rest k.good k.bytes
    by (sequence k) = n k.parameters k.rest k.plainly k.bytes

-- the bytes before what is left are a good styled text that shows n bytes, and if the whole is one, what is left is one
pub record StyledTo (bs rest : List ℕ) (n : ℕ) : Type 0 where
  pub front : List ℕ
  pub characters : List ℕ
  pub bytes : bs ≡ front ++ rest
  pub styled : Styled front characters
  pub shown : n ≡ length (encodes characters)
  pub left : StyledText bs → StyledText rest

pub styled-none : (bs : List ℕ) → StyledTo bs bs 0
styled-none bs = record { front = []; characters = []; bytes = refl; styled = ends; shown = refl; left = λ s. s }

pub styled-more : (bs rest shown after : List ℕ) (n : ℕ) → StyledTo bs rest n → PieceFront rest shown after → StyledTo bs after (n + length shown)
styled-more bs rest shown after n w f = record {
  front = w.front ++ f.piece;
  characters = w.characters ++ f.characters;
  bytes = w.bytes ∙ ap (λ l. w.front ++ l) f.bytes ∙ sym (append_assoc w.front f.piece after);
  styled = styled-append w.styled f.styled;
  shown = omega (arith, w.shown, ap length f.visible, length-append (encodes w.characters) (encodes f.characters), ap length (encodes-append w.characters f.characters));
  left = λ s. f.after (w.left s);
}

pub styled-all : (bs rest : List ℕ) (n : ℕ) (w : StyledTo bs rest n) → rest ≡ [] → Styled bs w.characters
styled-all bs rest n w e = subst (λ l. Styled l w.characters) (sym (w.bytes ∙ ap (λ l. w.front ++ l) e ∙ append-nil w.front)) w.styled

-- no more is shown than there are bytes
pub shown-fits : (bs rest : List ℕ) (n : ℕ) → StyledTo bs rest n → n ≤ length bs
shown-fits bs rest n w = omega (arith, w.shown, styled-longer w.styled, ap length w.bytes, length-append w.front rest)

-- a part of a good styled text shows no more than the whole
pub shown-within : (bs rest : List ℕ) (n : ℕ) (cs : List ℕ) → StyledTo bs rest n → Styled bs cs → n ≤ length (encodes cs)
shown-within bs rest n cs w s =
    let r = w.left (cs, s) in
    let all : Styled bs (w.characters ++ r.0) = subst (λ l. Styled l (w.characters ++ r.0)) (sym w.bytes) (styled-append w.styled r.1) in
    let e : encodes cs ≡ encodes w.characters ++ encodes r.0 = ap encodes (styled-same s all) ∙ encodes-append w.characters r.0 in
    omega (arith, w.shown, ap length e, length-append (encodes w.characters) (encodes r.0))

-- what the bytes before what is left show stands at the front of a buffer
pub record CopiedTo (bs rest old new : List ℕ) (n : ℕ) : Type 0 where
  pub walked : StyledTo bs rest n
  pub written : take n new ≡ encodes walked.characters
  pub kept : drop n new ≡ drop n old

pub copied_none : (bs old : List ℕ) → CopiedTo bs bs old old 0
unfolding styled-none
copied_none bs old = record { walked = styled-none bs; written = refl; kept = refl }

-- the room for what a piece shows
pub room : (bs rest shown after old new : List ℕ) (n : ℕ) → CopiedTo bs rest old new n → PieceFront rest shown after → VisibleFits bs (length old) → length new ≡ length old → n + length shown ≤ length new
room bs rest shown after old new n c f v e =
    omega (arith, shown-within bs after (n + length shown) v.0 (styled-more bs rest shown after n c.walked f) v.1, v.2)

pub copied_more : (bs rest shown after old new : List ℕ) (n : ℕ) → CopiedTo bs rest old new n → PieceFront rest shown after → n + length shown ≤ length new → CopiedTo bs after old (put_mid n (n + length shown - n) new shown) (n + length shown)
unfolding styled-more
copied_more bs rest shown after old new n c f h =
    let part : ℕ = n + length shown - n in
    record {
      walked = styled-more bs rest shown after n c.walked f;
      written = take-put_mid n part new shown (n + length shown) (omega arith) (omega arith) ∙ (λ k. c.written k ++ f.visible k) ∙ sym (encodes-append c.walked.characters f.characters);
      kept = drop-put_mid n part new shown (n + length shown) (omega arith) (omega arith) (omega arith) ∙ sym (drop-drop (length shown) n new) ∙ ap (drop (length shown)) c.kept ∙ drop-drop (length shown) n old;
    }

-- a visible text with the refusals of a prompt
pub prompt-shown : (max : ℕ) (bs old new : List ℕ) (r : Result ℕ Refusal) → length bs ≤ max → length old ≡ max → GivesVisible bs old new r → ShowsPrompt max bs old new (result_or r (Err Prompt))
prompt-shown max bs old new (Ok n) h e k = (h, omega (arith, k.count, styled-longer k.styled), k)
prompt-shown max bs old new (Err f) h e k = (refl, k.0, λ l s. ⊎_elim (λ n. n.1 s) (λ n. omega (arith, n.1.2, styled-longer n.1.1)) k.1)
