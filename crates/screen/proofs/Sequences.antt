-- Sequences of bytes that are fed, and style sequences, which change nothing.
use Rattle.std.proofs.Common.{◌≡◌, ℕ, true, List, [], ◌∷◌, ◌++◌, sym, refl, ap, ◌∙◌, arith}
use Rattle.screen.specs.Bytes.{begin, feed, finish, into, parameter, step, step_in, within}
use Rattle.screen.specs.Laws.{Style}
use Rattle.screen.specs.Screen.{Geometry, Screen}
use Rattle.screen.specs.Sequences.{are_parameters}
use Rattle.screen.specs.declared.cells.Parameters.{Parameters}
use Rattle.screen.specs.declared.cells.Parameters.TheVariants.{Bare}
use Rattle.screen.specs.declared.cells.Parser.TheVariants.{Ground, Sequence}
use Rattle.std.proofs.lemmas.Bool.{and_from, and_parts}
use Rattle.std.proofs.lemmas.Bool.Decides.{nat_tests}
use Rattle.text.specs.Texts.{is_plain, plain}

pub feed-append : (d : Geometry) (xs ys : List ℕ) (s : Screen) → feed d (xs ++ ys) s ≡ feed d ys (feed d xs s)
feed-append d [] ys s = refl
feed-append d (x ∷ xs) ys s = feed-append d xs ys (step d x s)

pub ground-is : (s : Screen) → s.parser ≡ Ground → into Ground s ≡ s
ground-is s e = λ i. record { pen = s.pen; top = s.top; held = s.held; parser = (sym e) i }

-- what parameter bytes amount to, one after the other
abbrev pub params : Parameters → List ℕ → Parameters
params p [] = p
params p (b ∷ bs) = params (parameter p b) bs

-- digits and semicolons are parameter bytes
pub plain-parameters : (ps : List ℕ) → plain ps ≡ true → are_parameters ps ≡ true
plain-parameters [] e = refl
plain-parameters (b ∷ bs) e =
    let h = and_parts (is_plain b) (plain bs) e in
    let byte : is_plain b ≡ true = h.0 in
    and_from _ _ (grind (arith, nat_tests)) (plain-parameters bs h.1)

step-param : (d : Geometry) (q : ℕ) (p : Parameters) (s : Screen) → within 48 63 q ≡ true → step d q (into (Sequence p) s) ≡ into (Sequence (parameter p q)) s
unfolding step_in
step-param d q p s e = grind (arith, nat_tests)

pub feed-params : (d : Geometry) (qs : List ℕ) (p : Parameters) (s : Screen) → are_parameters qs ≡ true → feed d qs (into (Sequence p) s) ≡ into (Sequence (params p qs)) s
feed-params d [] p s e = refl
feed-params d (q ∷ qs) p s e =
    let h = and_parts (within 48 63 q) (are_parameters qs) e in
    ap (feed d qs) (step-param d q p s h.0) ∙ feed-params d qs (parameter p q) s h.1

-- behind parameter bytes the next byte finds what they amount to
pub feed-parameters : (d : Geometry) (ps : List ℕ) (b : ℕ) (s : Screen) → are_parameters ps ≡ true → feed d (27 ∷ 91 ∷ (ps ++ (b ∷ []))) (into Ground s) ≡ step d b (into (Sequence (params Bare ps)) s)
unfolding step_in begin
feed-parameters d ps b s e = feed-append d ps (b ∷ []) (into (Sequence Bare) s) ∙ ap (step d b) (feed-params d ps Bare s e)

-- a sequence with digits and semicolons does what its final byte does
pub feed-sequence : (d : Geometry) (ps : List ℕ) (b : ℕ) (s : Screen) → plain ps ≡ true → feed d (27 ∷ 91 ∷ (ps ++ (b ∷ []))) (into Ground s) ≡ step d b (into (Sequence (params Bare ps)) s)
feed-sequence d ps b s e = feed-parameters d ps b s (plain-parameters ps e)

pub style-proof : Style
unfolding step_in begin finish
style-proof d ps s e g = rw (← ground-is s g) (feed-sequence d ps 109 s e)
