-- A script read as far as some line. Assumes nothing.
use Rattle.std.proofs.Common.{◌≡◌, ℕ, ◌+◌, ◌≤◌, List, [], ◌∷◌, ◌++◌, length, Some, None, eqb, refl, sym, subst, ap, ◌∙◌, arith, append_assoc, append-nil, length-append}
use Rattle.std.specs.Prelude.{◌⊎◌, vec_items}
use Rattle.std.specs.List.{onto_first}
use Rattle.std.proofs.lemmas.Bool.{cond_both}
use Rattle.script.specs.Defaults.{IsDefault}
use Rattle.script.specs.Scripts.{Said, Say, nothing, more, Stops, said_by, with_line}
use Rattle.script.specs.declared.error.ScriptError.{ScriptError}
use Rattle.script.specs.declared.error.Wrong.TheVariants.{Memory, BadWord}
use Rattle.script.specs.declared.reading.Script.{Script}
use Rattle.text.specs.Lines.{lines_of}

-- the lines before this one say this, and these are still to come
pub record Far (text : List ℕ) (rest : List (List ℕ)) (line : ℕ) (s : Said) : Type 0 where
  pub before : List (List ℕ)
  pub lines : before ++ rest ≡ lines_of text
  pub number : line ≡ length before + 1
  pub said : Say before s

pub far-first : (text : List ℕ) (rest : List (List ℕ)) (script : Script) → rest ≡ lines_of text → IsDefault script.settings → vec_items script.acts ≡ [] → Far text rest 1 (said_by script)
far-first text rest script e d n = record { before = []; lines = e; number = refl; said = nothing script d n }

pub far-next : (text : List ℕ) (rest behind : List (List ℕ)) (line : List ℕ) (n : ℕ) (s t : Said) → Far text rest n s → rest ≡ line ∷ behind → with_line n line s ≡ Some t → Far text behind (n + 1) t
far-next text rest behind line n s t f e w = record {
  before = f.before ++ line ∷ [];
  lines = append_assoc f.before (line ∷ []) behind ∙ ap (λ (r : List (List ℕ)). f.before ++ r) (sym e) ∙ f.lines;
  number = let l = length-append f.before (line ∷ []) in let k = f.number in omega arith;
  said = more f.before line s t f.said (ap (λ (m : ℕ). with_line m line s) (sym f.number) ∙ w);
}

pub far-last : (text : List ℕ) (rest : List (List ℕ)) (n : ℕ) (s : Said) → Far text rest n s → rest ≡ [] → Say (lines_of text) s
far-last text rest n s f e = subst (λ (r : List (List ℕ)). Say r s) (sym (append-nil f.before) ∙ ap (λ (r : List (List ℕ)). f.before ++ r) (sym e) ∙ f.lines) f.said

pub far-stops : (text : List ℕ) (rest behind : List (List ℕ)) (line : List ℕ) (script : Script) (e : ScriptError) → Far text rest e.line (said_by script) → rest ≡ line ∷ behind
    → ((e.wrong ≡ Memory) ⊎ ((e.wrong ≡ BadWord) ⊎ (with_line e.line line (said_by script) ≡ None))) → Stops text script e
far-stops text rest behind line script e f r w = record {
  before = f.before;
  line = line;
  behind = behind;
  lines = ap (λ (q : List (List ℕ)). f.before ++ q) (sym r) ∙ f.lines;
  number = f.number;
  said = f.said;
  wrong = w;
}

onto-few : (b : ℕ) (ls : List (List ℕ)) (n : ℕ) → length ls ≤ n → length (onto_first b ls) ≤ n + 1
onto-few b [] n h = omega arith
onto-few b (l ∷ ls) n h = omega arith

-- no more lines than bytes
few : (text : List ℕ) → length (lines_of text) ≤ length text
few [] = omega arith
few (b ∷ bs) = let h = few bs in let o = onto-few b (lines_of bs) (length bs) h in
    cond_both (eqb b 10) ([] ∷ lines_of bs) (onto_first b (lines_of bs)) (λ (ls : List (List ℕ)). length ls ≤ length (b ∷ bs)) (λ _. omega arith) (λ _. omega arith)

pub far-few : (text : List ℕ) (rest behind : List (List ℕ)) (line : List ℕ) (n : ℕ) (s : Said) → Far text rest n s → rest ≡ line ∷ behind → n ≤ length text
far-few text rest behind line n s f e =
    let k = few text in
    let l = length-append f.before rest in
    let m = ap (λ (r : List (List ℕ)). length r) f.lines in
    let r = ap (λ (r : List (List ℕ)). length r) e in
    let i = f.number in omega arith
