-- An insert that is written by itself: the texts of the two pages.
use Rattle.std.proofs.Common.{◌≡◌, ℕ, ◌+◌, ◌<◌, true, not, eqb, ltb, List, [], ◌∷◌, ◌++◌, length, take, drop, is_some, Some, None, Option, sym, refl, ap, ◌∙◌, append_assoc, append-nil, le_refl, add-zero}
use borrow.Author.Tests.{clash}
use lib.Utf8.{encode, scalar}
use Rattle.page.specs.Acts.{Replies, times}
use Rattle.page.specs.Output.{direct}
use Rattle.page.specs.Page.{Page, block_text, cursor_col, front_text, note_text}
use Rattle.page.specs.Rules.{OneCharacter}
use Rattle.screen.specs.Screen.{Geometry}
use Rattle.std.proofs.lemmas.List.{drop_all, take_all}
use Rattle.std.proofs.lemmas.Bool.{and_from, and_parts, eqb-true, ltb-true}
use Rattle.std.proofs.lemmas.Str.{chars-append, chars-encodes}
use Rattle.std.specs.Str.{chars as decodes}
use Rattle.text.proofs.Spelling.{good-text-utf8}
use Rattle.text.specs.Characters.{Good}
use Rattle.text.specs.Texts.{GoodText}
use Rattle.widths.specs.Clusters.{total}

pub no_note : (o : Option (List ℕ)) → not (is_some o) ≡ true → o ≡ None
no_note None e = refl
no_note (Some t) e = absurd (clash e)

char-decodes : (c : ℕ) → Good c → decodes (encode c) ≡ c ∷ []
char-decodes c g = ap decodes (sym (append-nil (encode c))) ∙ chars-encodes (c ∷ []) (and_from (scalar c) true g.0 refl)

-- what a direct insert tells
pub record Direct (d : Geometry) (prompt : List ℕ) (bs : List ℕ) (n : ℕ) (r : Replies) (p q : Page) : Type 0 where
  pub end : p.pos ≡ length p.line
  pub once : n ≡ 1
  pub wide : 0 < total d.width (decodes bs)
  pub within : cursor_col d prompt p + total d.width (decodes bs) < d.cols
  pub clear : p.note ≡ None
  pub bare : q.note ≡ None

pub direct_is : (d : Geometry) (prompt bs : List ℕ) (n : ℕ) (r : Replies) (p q : Page) → direct d prompt bs n r p q ≡ true → Direct d prompt bs n r p q
direct_is d prompt bs n r p q e =
    let a = and_parts (eqb p.pos (length p.line)) _ e in
    let b = and_parts (eqb n 1) _ a.1 in
    let c = and_parts (ltb 0 (total d.width (decodes bs))) _ b.1 in
    let f = and_parts (ltb (cursor_col d prompt p + total d.width (decodes bs)) d.cols) _ c.1 in
    let g = and_parts (not (is_some p.note)) _ f.1 in
    let h = and_parts (not (is_some q.note)) _ g.1 in
    record {
      end = eqb-true p.pos (length p.line) a.0;
      once = eqb-true n 1 b.0;
      wide = ltb-true 0 (total d.width (decodes bs)) c.0;
      within = ltb-true (cursor_col d prompt p + total d.width (decodes bs)) d.cols f.0;
      clear = no_note p.note g.0;
      bare = no_note q.note h.0;
    }

-- the character that an insert brings
pub record Brought (w : ℕ → ℕ) (bs : List ℕ) : Type 0 where
  pub char : ℕ
  pub good : Good char
  pub bytes : encode char ≡ bs
  pub chars : decodes bs ≡ char ∷ []
  pub width : total w (decodes bs) ≡ w char

pub brought : (w : ℕ → ℕ) (bs : List ℕ) → OneCharacter bs → Brought w bs
brought w bs (c, g, e) =
    let is : decodes bs ≡ c ∷ [] = ap decodes (sym e) ∙ char-decodes c g in
    record { char = c; good = g; bytes = e; chars = is; width = ap (total w) is ∙ add-zero (w c) }

-- the new line: the old one and the character
pub line-end : (l bs : List ℕ) (q n : ℕ) → q ≡ length l → n ≡ 1 → take q l ++ (times n bs ++ drop q l) ≡ l ++ bs
line-end l bs q n e f =
    (λ i. take (e i) l ++ (times (f i) bs ++ drop (e i) l))
    ∙ (λ i. take_all (length l) l (le_refl (length l)) i ++ ((append-nil bs i) ++ drop_all (length l) l (le_refl (length l)) i))
    ∙ ap (λ (x : List ℕ). l ++ x) (append-nil bs)

module _ (prompt : List ℕ) (p q : Page) (bs : List ℕ) (c : ℕ) (good : GoodText p.line) (is : decodes bs ≡ c ∷ [])
    (end : p.pos ≡ length p.line) (clear : p.note ≡ None) (bare : q.note ≡ None) (line : q.line ≡ p.line ++ bs) (pos : q.pos ≡ length (p.line ++ bs)) where
  line-chars : decodes q.line ≡ decodes p.line ++ (c ∷ [])
  line-chars = ap decodes line ∙ chars-append p.line bs (good-text-utf8 p.line good) ∙ ap (λ (x : List ℕ). decodes p.line ++ x) is

  pub old-front : front_text prompt p ≡ block_text prompt p
  old-front =
      ap (λ (x : List ℕ). prompt ++ decodes x) (ap (λ k. take k p.line) end ∙ take_all (length p.line) p.line (le_refl (length p.line)))
      ∙ ap (λ (x : List ℕ). prompt ++ x) (sym (ap (λ (o : Option (List ℕ)). decodes p.line ++ note_text o) clear ∙ append-nil (decodes p.line)))

  new-block : block_text prompt q ≡ prompt ++ decodes q.line
  new-block = ap (λ (x : List ℕ). prompt ++ x) (ap (λ (o : Option (List ℕ)). decodes q.line ++ note_text o) bare ∙ append-nil (decodes q.line))

  pub new-text : block_text prompt q ≡ block_text prompt p ++ (c ∷ [])
  new-text =
      new-block ∙ ap (λ (x : List ℕ). prompt ++ x) line-chars ∙ sym (append_assoc prompt (decodes p.line) (c ∷ []))
      ∙ ap (λ (x : List ℕ). x ++ (c ∷ [])) (ap (λ (x : List ℕ). prompt ++ x) (sym (ap (λ (o : Option (List ℕ)). decodes p.line ++ note_text o) clear ∙ append-nil (decodes p.line))))

  pub new-front : front_text prompt q ≡ block_text prompt q
  new-front =
      ap (λ (x : List ℕ). prompt ++ decodes x) ((λ i. take (pos i) (line i)) ∙ take_all (length (p.line ++ bs)) (p.line ++ bs) (le_refl (length (p.line ++ bs))) ∙ sym line)
      ∙ sym new-block
