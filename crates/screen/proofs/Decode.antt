-- The bytes of a character do what the character does.
use Rattle.std.proofs.Common.{◌≡◌, ℕ, ◌+◌, ◌-◌, ◌*◌, ◌/◌, ◌%◌, ◌<◌, ◌≤◌, true, eqb, ltb, ◌≢◌, ◌⊎◌, List, [], ◌∷◌, ap, ◌∙◌, inl, inr, ⊎_elim, arith}
use lib.Utf8.{encode, scalar, scalar_cases}
use Rattle.screen.proofs.Sequences.{ground-is}
use Rattle.screen.specs.Bytes.{begin, continue, feed, into, starts, step, step_in}
use Rattle.screen.specs.Laws.{Utf}
use Rattle.screen.specs.Screen.{Geometry, Screen, put}
use Rattle.screen.specs.declared.cells.Parser.TheVariants.{Ground}
use Rattle.std.proofs.lemmas.Bool.{cases_eq, cond_both, cond-false, ltb-false, ltb-true, ne_eqb}
use Rattle.std.proofs.lemmas.Bool.Decides.{nat_tests}

begin-ascii : (d : Geometry) (b : ℕ) (s : Screen) → b < 128 → begin d b s ≡ put d b s
unfolding begin
begin-ascii d b s h = grind (arith, nat_tests)

begin-two : (d : Geometry) (b : ℕ) (s : Screen) → 194 ≤ b → b ≤ 223 → begin d b s ≡ starts (b - 192) 1 128 191 s
unfolding begin
begin-two d b s h k = grind (arith, nat_tests)

begin-three : (d : Geometry) (b : ℕ) (s : Screen) → 225 ≤ b → b ≤ 239 → b ≢ 237 → begin d b s ≡ starts (b - 224) 2 128 191 s
unfolding begin
begin-three d b s h k n = grind (arith, nat_tests)

begin-four : (d : Geometry) (b : ℕ) (s : Screen) → 241 ≤ b → b ≤ 243 → begin d b s ≡ starts (b - 240) 3 128 191 s
unfolding begin
begin-four d b s h k = grind (arith, nat_tests)

begin-at-0 : (d : Geometry) (q : ℕ) (s : Screen) → q ≡ 0 → begin d (224 + q) (into Ground s) ≡ starts q 2 160 191 s
unfolding begin
begin-at-0 d q s e = rw e

begin-at-13 : (d : Geometry) (q : ℕ) (s : Screen) → q ≡ 13 → begin d (224 + q) (into Ground s) ≡ starts q 2 128 159 s
unfolding begin
begin-at-13 d q s e = rw e

begin-at-16 : (d : Geometry) (q : ℕ) (s : Screen) → q ≡ 0 → begin d (240 + q) (into Ground s) ≡ starts q 3 144 191 s
unfolding begin
begin-at-16 d q s e = rw e

begin-at-20 : (d : Geometry) (q : ℕ) (s : Screen) → q ≡ 4 → begin d (240 + q) (into Ground s) ≡ starts q 3 128 143 s
unfolding begin
begin-at-20 d q s e = rw e

step-begin : (d : Geometry) (b : ℕ) (s : Screen) → b ≢ 27 → step d b (into Ground s) ≡ begin d b (into Ground s)
unfolding step_in
step-begin d b s n = cond-false (eqb b 27) _ _ (ne_eqb b 27 n)

next_one : (d : Geometry) (lo hi n c b : ℕ) (s : Screen) → 128 ≤ lo → lo ≤ b → b ≤ hi → step d b (starts c n lo hi s) ≡ continue d (record { value = c; left = n; low = lo; high = hi }) b s
unfolding step_in
next_one d lo hi n c b s z h k = grind (arith, nat_tests)

two : (d : Geometry) (c : ℕ) (s : Screen) → 128 ≤ c → c < 2048 → feed d ((192 + c / 64) ∷ (128 + c % 64) ∷ []) (into Ground s) ≡ put d c s
unfolding step_in
two d c s h k =
    ap (step d (128 + c % 64)) (step-begin d (192 + c / 64) s (omega arith) ∙ begin-two d (192 + c / 64) (into Ground s) (omega arith) (omega arith))
    ∙ next_one d 128 191 1 (192 + c / 64 - 192) (128 + c % 64) s (omega arith) (omega arith) (omega arith)
    ∙ ap (λ x. put d x s) (omega arith)

-- the three bytes, where the second lies between lo and hi
three : (d : Geometry) (c lo hi : ℕ) (s : Screen) → begin d (224 + c / 4096) (into Ground s) ≡ starts (c / 4096) 2 lo hi s → 128 ≤ lo → c < 65536 → lo ≤ 128 + (c / 64) % 64 → 128 + (c / 64) % 64 ≤ hi → feed d ((224 + c / 4096) ∷ (128 + (c / 64) % 64) ∷ (128 + c % 64) ∷ []) (into Ground s) ≡ put d c s
unfolding step_in
three d c lo hi s e z k l m =
    ap (λ x. step d (128 + c % 64) (step d (128 + (c / 64) % 64) x)) (step-begin d (224 + c / 4096) s (omega arith) ∙ e)
    ∙ ap (step d (128 + c % 64)) (next_one d lo hi 2 (c / 4096) (128 + (c / 64) % 64) s z l m)
    ∙ next_one d 128 191 1 (c / 4096 * 64 + (128 + (c / 64) % 64 - 128)) (128 + c % 64) s (omega arith) (omega arith) (omega arith)
    ∙ ap (λ x. put d x s) (omega arith)

quarter : (c : ℕ) → c / 262144 * 64 + (c / 4096) % 64 ≡ c / 4096
quarter c = omega arith

sixteenth : (c : ℕ) → c / 4096 * 64 + (c / 64) % 64 ≡ c / 64
sixteenth c = omega arith

four : (d : Geometry) (c lo hi : ℕ) (s : Screen) → begin d (240 + c / 262144) (into Ground s) ≡ starts (c / 262144) 3 lo hi s → 128 ≤ lo → lo ≤ 128 + (c / 4096) % 64 → 128 + (c / 4096) % 64 ≤ hi → feed d ((240 + c / 262144) ∷ (128 + (c / 4096) % 64) ∷ (128 + (c / 64) % 64) ∷ (128 + c % 64) ∷ []) (into Ground s) ≡ put d c s
unfolding step_in
four d c lo hi s e z l m =
    ap (λ x. step d (128 + c % 64) (step d (128 + (c / 64) % 64) (step d (128 + (c / 4096) % 64) x))) (step-begin d (240 + c / 262144) s (omega arith) ∙ e)
    ∙ ap (λ x. step d (128 + c % 64) (step d (128 + (c / 64) % 64) x)) (next_one d lo hi 3 (c / 262144) (128 + (c / 4096) % 64) s z l m)
    ∙ ap (step d (128 + c % 64)) (next_one d 128 191 2 (c / 262144 * 64 + (128 + (c / 4096) % 64 - 128)) (128 + (c / 64) % 64) s (omega arith) (omega arith) (omega arith))
    ∙ next_one d 128 191 1 ((c / 262144 * 64 + (128 + (c / 4096) % 64 - 128)) * 64 + (128 + (c / 64) % 64 - 128)) (128 + c % 64) s (omega arith) (omega arith) (omega arith)
    ∙ ap (λ x. put d x s) (omega (arith, sixteenth c, quarter c))

-- which second bytes may follow, by the first
three-bytes : (d : Geometry) (c : ℕ) (s : Screen) → 2048 ≤ c → (c < 55296) ⊎ (57344 ≤ c) → c < 65536 → feed d ((224 + c / 4096) ∷ (128 + (c / 64) % 64) ∷ (128 + c % 64) ∷ []) (into Ground s) ≡ put d c s
three-bytes d c s h e k = go (cases_eq (c / 4096) 0) (cases_eq (c / 4096) 13)
  where
    go : (c / 4096 ≡ 0) ⊎ (c / 4096 ≢ 0) → (c / 4096 ≡ 13) ⊎ (c / 4096 ≢ 13) → feed d ((224 + c / 4096) ∷ (128 + (c / 64) % 64) ∷ (128 + c % 64) ∷ []) (into Ground s) ≡ put d c s
    go (inl z) y = three d c 160 191 s (begin-at-0 d (c / 4096) s z) (omega arith) k (omega arith) (omega arith)
    go (inr z) (inl y) = three d c 128 159 s (begin-at-13 d (c / 4096) s y) (omega arith) k (omega arith) (omega arith)
    go (inr z) (inr y) = three d c 128 191 s (begin-three d (224 + c / 4096) (into Ground s) (omega arith) (omega arith) (omega arith) ∙ ap (λ x. starts x 2 128 191 s) (omega arith)) (omega arith) k (omega arith) (omega arith)

four_bytes : (d : Geometry) (c : ℕ) (s : Screen) → 65536 ≤ c → c < 1114112 → feed d ((240 + c / 262144) ∷ (128 + (c / 4096) % 64) ∷ (128 + (c / 64) % 64) ∷ (128 + c % 64) ∷ []) (into Ground s) ≡ put d c s
four_bytes d c s h k = go (cases_eq (c / 262144) 0) (cases_eq (c / 262144) 4)
  where
    go : (c / 262144 ≡ 0) ⊎ (c / 262144 ≢ 0) → (c / 262144 ≡ 4) ⊎ (c / 262144 ≢ 4) → feed d ((240 + c / 262144) ∷ (128 + (c / 4096) % 64) ∷ (128 + (c / 64) % 64) ∷ (128 + c % 64) ∷ []) (into Ground s) ≡ put d c s
    go (inl z) y = four d c 144 191 s (begin-at-16 d (c / 262144) s z) (omega arith) (omega arith) (omega arith)
    go (inr z) (inl y) = four d c 128 143 s (begin-at-20 d (c / 262144) s y) (omega arith) (omega arith) (omega arith)
    go (inr z) (inr y) = four d c 128 191 s (begin-four d (240 + c / 262144) (into Ground s) (omega arith) (omega arith) ∙ ap (λ x. starts x 3 128 191 s) (omega arith)) (omega arith) (omega arith) (omega arith)

from-Ground : (d : Geometry) (c : ℕ) (s : Screen) → scalar c ≡ true → c ≢ 27 → feed d (encode c) (into Ground s) ≡ put d c s
unfolding encode step_in
from-Ground d c s e n =
    cond_both (ltb c 128) _ _ (λ (bs : List ℕ). feed d bs (into Ground s) ≡ put d c s) (λ t. step-begin d c s n ∙ begin-ascii d c (into Ground s) (ltb-true c 128 t)) λ f.
    cond_both (ltb c 2048) _ _ (λ (bs : List ℕ). feed d bs (into Ground s) ≡ put d c s) (λ t. two d c s (ltb-false c 128 f) (ltb-true c 2048 t)) λ g.
    cond_both (ltb c 65536) _ _ (λ (bs : List ℕ). feed d bs (into Ground s) ≡ put d c s) (λ t. three-bytes d c s (ltb-false c 2048 g) (⊎_elim inl (λ h. inr h.0) (scalar_cases c e)) (ltb-true c 65536 t)) λ k.
    four_bytes d c s (ltb-false c 65536 k) (omega (arith, scalar_cases c e))

pub utf-proof : Utf
utf-proof d c s e n g = rw (← ground-is s g) (from-Ground d c s e n)
