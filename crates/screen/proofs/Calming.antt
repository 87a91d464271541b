-- A session that does not hold updates never sets the held mark, wherever its writes break: no `ESC[?` is among its bytes.
use Rattle.std.proofs.Common.{◌≡◌, ℕ, zero, suc, ◌+◌, ◌-◌, ◌*◌, max, Bool, true, false, cond, ◌&&◌, ◌||◌, eqb, ltb, ◌≢◌, List, [], ◌∷◌, ◌++◌, take, sym, refl, ap, ◌∙◌, subst, append_assoc, append-nil, arith}
use borrow.Author.Tests.{clash}
use Rattle.screen.specs.Bytes.{act, begin, dropped, escaped, feed, finish, into, is_digit, move, parameter, starts, step_in, within}
use Rattle.screen.specs.Screen.{Geometry, Screen, put}
use Rattle.screen.specs.declared.cells.Parameters.{Parameters}
use Rattle.screen.specs.declared.cells.Parameters.TheVariants.{Bare, Mode, Number, Numbers, Other}
use Rattle.screen.specs.declared.cells.Parser.{Parser}
use Rattle.screen.specs.declared.cells.Parser.TheVariants.{Character, Escape, Ground, Sequence}
use Rattle.std.proofs.lemmas.Bool.{and_from, and_parts, and_right, cond_both, cond-false, ne_eqb}
use Rattle.std.proofs.lemmas.Bool.Decides.{nat_tests}
use Rattle.text.specs.Texts.{is_plain, plain}

abbrev pub escape_parser : Parser → Bool
escape_parser Ground = false
escape_parser Escape = true
escape_parser (Sequence p) = false
escape_parser (Character p) = false

abbrev pub bare_parameters : Parameters → Bool
bare_parameters Bare = true
bare_parameters (Number n) = false
bare_parameters (Numbers n) = false
bare_parameters (Mode k) = false
bare_parameters Other = false

abbrev pub mode_parameters : Parameters → Bool
mode_parameters Bare = false
mode_parameters (Number n) = false
mode_parameters (Numbers n) = false
mode_parameters (Mode k) = true
mode_parameters Other = false

abbrev pub bare_parser : Parser → Bool
bare_parser Ground = false
bare_parser Escape = false
bare_parser (Sequence p) = bare_parameters p
bare_parser (Character p) = false

abbrev pub mode_parser : Parser → Bool
mode_parser Ground = false
mode_parser Escape = false
mode_parser (Sequence p) = mode_parameters p
mode_parser (Character p) = false

-- no byte ? stands behind ESC and [; a: ESC came just before, b: ESC and [ did
unfoldable pub calm : Bool → Bool → List ℕ → Bool
calm a b [] = true
calm a b (x ∷ xs) = cond (eqb x 27) (calm true false xs) (cond (b && eqb x 63) false (calm false (a && eqb x 91) xs))

-- no mark is set, and none is on its way
pub record Loose (a b : Bool) (s : Screen) : Type 0 where
  pub free : s.held ≡ false
  pub modeless : mode_parser s.parser ≡ false
  pub escape : escape_parser s.parser ≡ true → a ≡ true
  pub bare : bare_parser s.parser ≡ true → b ≡ true

false-true : {A : Type 0} → false ≡ true → A
false-true e = absurd (clash e)

module _ (d : Geometry) where
  -- nothing unfinished but a character
  abbrev Still : Screen → Type 0
  Still s = (s.held ≡ false) × (mode_parser s.parser ≡ false) × (escape_parser s.parser ≡ false) × (bare_parser s.parser ≡ false)

  still-cond : (b : Bool) (x y : Screen) → Still x → Still y → Still (cond b x y)
  still-cond true x y h k = h
  still-cond false x y h k = k

  still-loose : (a b : Bool) (s : Screen) → Still s → Loose a b s
  still-loose a b s h = record { free = h.0; modeless = h.1; escape = λ e. false-true (sym h.2 ∙ e); bare = λ e. false-true (sym h.3 ∙ e) }

  still-begin : (x : ℕ) (s : Screen) → s.held ≡ false → Still (begin d x s)
  unfolding begin
  still-begin x s e =
      still-cond (ltb x 128) _ _ (e, refl, refl, refl)
      (still-cond (within 194 223 x) _ _ (e, refl, refl, refl)
      (still-cond (eqb x 224) _ _ (e, refl, refl, refl)
      (still-cond (eqb x 237) _ _ (e, refl, refl, refl)
      (still-cond (within 225 239 x) _ _ (e, refl, refl, refl)
      (still-cond (eqb x 240) _ _ (e, refl, refl, refl)
      (still-cond (within 241 243 x) _ _ (e, refl, refl, refl)
      (still-cond (eqb x 244) _ _ (e, refl, refl, refl) (e, refl, refl, refl))))))))

  still-move : (x n : ℕ) (s : Screen) → s.held ≡ false → Still (move d x n s)
  unfolding move
  still-move x n s e =
      still-cond (eqb x 65) _ _ (e, refl, refl, refl)
      (still-cond (eqb x 66) _ _ (e, refl, refl, refl)
      (still-cond (eqb x 67) _ _ (e, refl, refl, refl)
      (still-cond (eqb x 68) _ _ (e, refl, refl, refl) (e, refl, refl, refl))))

  still-act : (p : Parameters) (x : ℕ) (s : Screen) → mode_parameters p ≡ false → s.held ≡ false → Still (act d p x s)
  unfolding act
  still-act Bare x s m e =
      still-cond (eqb x 72) _ _ (e, refl, refl, refl) (still-cond (eqb x 74) _ _ (e, refl, refl, refl) (still-cond (eqb x 75) _ _ (e, refl, refl, refl) (still-move x 1 s e)))
  still-act (Number n) x s m e = still-move x (max 1 n) s e
  still-act (Numbers n) x s m e = still-move x (max 1 n) s e
  still-act (Mode k) x s m e = false-true (sym m)
  still-act Other x s m e = (e, refl, refl, refl)

  still-finish : (p : Parameters) (x : ℕ) (s : Screen) → mode_parameters p ≡ false → s.held ≡ false → Still (finish d p x s)
  unfolding finish
  still-finish p x s m e = still-cond (eqb x 109) _ _ (e, refl, refl, refl) (still-act p x s m e)

  -- a parameter byte other than ? behind ESC and [ sets no mode on its way
  abbrev Settled : Parameters → Type 0
  Settled p = (mode_parameters p ≡ false) × (bare_parameters p ≡ false)

  settled-cond : (b : Bool) (x y : Parameters) → Settled x → Settled y → Settled (cond b x y)
  settled-cond true x y h k = h
  settled-cond false x y h k = k

  settled-more : (p : Parameters) (x : ℕ) → mode_parameters p ≡ false → (bare_parameters p ≡ true → eqb x 63 ≡ false) → Settled (parameter p x)
  settled-more Bare x m h = settled-cond (is_digit x) _ _ (refl, refl) (settled-cond (eqb x 59) _ _ (refl, refl) (subst (λ b. Settled (cond b (Mode 1) Other)) (sym (h refl)) (refl, refl)))
  settled-more (Number n) x m h = settled-cond (is_digit x) _ _ (refl, refl) (settled-cond (eqb x 59) _ _ (refl, refl) (refl, refl))
  settled-more (Numbers n) x m h = settled-cond (is_digit x || eqb x 59) _ _ (refl, refl) (refl, refl)
  settled-more (Mode k) x m h = false-true (sym m)
  settled-more Other x m h = (refl, refl)

  loose-cond : (a b c : Bool) (x y : Screen) → Loose a b x → Loose a b y → Loose a b (cond c x y)
  loose-cond a b true x y h k = h
  loose-cond a b false x y h k = k

  and-false : (b c : Bool) → (b && c) ≡ false → b ≡ true → c ≡ false
  and-false true c e t = e
  and-false false c e t = false-true t

  loose-in : (m : Parser) (a b : Bool) (x : ℕ) (s : Screen) → s.held ≡ false → mode_parser m ≡ false → (escape_parser m ≡ true → a ≡ true) → (bare_parser m ≡ true → b ≡ true) → (b && eqb x 63) ≡ false → Loose false (a && eqb x 91) (step_in d m x s)
  unfolding step_in
  loose-in Ground a b x s e f g h c = still-loose false (a && eqb x 91) _ (still-begin x s e)
  loose-in Escape a b x s e f g h c =
      cond_both (eqb x 91) (into (Sequence Bare) s) (dropped s) (Loose false (a && eqb x 91))
      (λ t. record { free = e; modeless = refl; escape = λ q. false-true q; bare = λ q. and_from a (eqb x 91) (g refl) t })
      (λ t. still-loose false (a && eqb x 91) (dropped s) (e, refl, refl, refl))
  loose-in (Sequence p) a b x s e f g h c =
      loose-cond false (a && eqb x 91) (within 48 63 x) _ _
      (let q = settled-more p x f (λ t. and-false b (eqb x 63) c (h t)) in still-loose false (a && eqb x 91) (into (Sequence (parameter p x)) s) (e, q.0, refl, q.1))
      (loose-cond false (a && eqb x 91) (within 64 126 x) _ _ (still-loose false (a && eqb x 91) _ (still-finish p x s f e)) (still-loose false (a && eqb x 91) (dropped s) (e, refl, refl, refl)))
  loose-in (Character p) a b x s e f g h c =
      loose-cond false (a && eqb x 91) (within p.low p.high x) _ _
      (loose-cond false (a && eqb x 91) (ltb p.left 2) _ _ (still-loose false (a && eqb x 91) (put d (p.value * 64 + (x - 128)) s) (e, refl, refl, refl)) (still-loose false (a && eqb x 91) (starts (p.value * 64 + (x - 128)) (p.left - 1) 128 191 s) (e, refl, refl, refl)))
      (still-loose false (a && eqb x 91) _ (still-begin x (dropped s) e))

  weaken : (a b : Bool) (s : Screen) → Loose a b s → Loose true true s
  weaken a b s h = record { free = h.free; modeless = h.modeless; escape = λ e. refl; bare = λ e. refl }

  loose-next : (xs : List ℕ) (a b : Bool) (x : ℕ) (s : Screen) → Loose a b s
      → ((a b : Bool) (s : Screen) → calm a b xs ≡ true → Loose a b s → Loose true true (feed d xs s))
      → (u : Bool) → (b && eqb x 63) ≡ u → cond u false (calm false (a && eqb x 91) xs) ≡ true → Loose true true (feed d xs (step_in d s.parser x s))
  loose-next xs a b x s h ih true f k = false-true k
  loose-next xs a b x s h ih false f k = ih false (a && eqb x 91) (step_in d s.parser x s) k (loose-in s.parser a b x s h.free h.modeless h.escape h.bare f)

  loose-step : (xs : List ℕ) (a b : Bool) (x : ℕ) (s : Screen) → Loose a b s
      → ((a b : Bool) (s : Screen) → calm a b xs ≡ true → Loose a b s → Loose true true (feed d xs s))
      → (t : Bool) → cond t (calm true false xs) (cond (b && eqb x 63) false (calm false (a && eqb x 91) xs)) ≡ true → Loose true true (feed d xs (cond t (escaped s) (step_in d s.parser x s)))
  loose-step xs a b x s h ih true k = ih true false (escaped s) k (record { free = h.free; modeless = refl; escape = λ q. refl; bare = λ q. q })
  loose-step xs a b x s h ih false k = loose-next xs a b x s h ih (b && eqb x 63) refl k

  pub loose-feed : (xs : List ℕ) (a b : Bool) (s : Screen) → calm a b xs ≡ true → Loose a b s → Loose true true (feed d xs s)
  unfolding calm
  loose-feed [] a b s c h = weaken a b s h
  loose-feed (x ∷ xs) a b s c h = loose-step xs a b x s h (λ a b s. loose-feed xs a b s) (eqb x 27) c

take_step : (n : ℕ) (xs : List ℕ) (c : Bool) → ((a b : Bool) → calm a b xs ≡ true → calm a b (take n xs) ≡ true)
    → (t u : Bool) → cond t (calm true false xs) (cond u false (calm false c xs)) ≡ true → cond t (calm true false (take n xs)) (cond u false (calm false c (take n xs))) ≡ true
take_step n xs c ih true u k = ih true false k
take_step n xs c ih false true k = k
take_step n xs c ih false false k = ih false c k

pub calm-take : (n : ℕ) (xs : List ℕ) (a b : Bool) → calm a b xs ≡ true → calm a b (take n xs) ≡ true
unfolding calm
calm-take zero xs a b c = refl
calm-take (suc n) [] a b c = refl
calm-take (suc n) (x ∷ xs) a b c = take_step n xs (a && eqb x 91) (λ a b. calm-take n xs a b) (eqb x 27) (b && eqb x 63) c

-- bytes that leave nothing behind ESC
unfoldable pub Rests : List ℕ → Type 0
Rests xs = (ys : List ℕ) → calm false false (xs ++ ys) ≡ calm false false ys

pub rests-calm : (xs : List ℕ) → Rests xs → calm false false xs ≡ true
unfolding Rests calm
rests-calm xs h = ap (calm false false) (sym (append-nil xs)) ∙ h []

pub rests-none : Rests []
unfolding Rests
rests-none ys = refl

pub rests-append : (xs ys : List ℕ) → Rests xs → Rests ys → Rests (xs ++ ys)
unfolding Rests
rests-append xs ys h k zs = ap (calm false false) (append_assoc xs ys zs) ∙ h (ys ++ zs) ∙ k zs

pub rests-byte : (x : ℕ) → x ≢ 27 → Rests (x ∷ [])
unfolding Rests calm
rests-byte x n ys = cond-false (eqb x 27) _ _ (ne_eqb x 27 n)

-- a byte behind a sequence's parameters
calm-past : (ps : List ℕ) (x : ℕ) (ys : List ℕ) → plain ps ≡ true → x ≢ 27 → x ≢ 63 → (b : Bool) → calm false b (ps ++ (x ∷ ys)) ≡ calm false false ys
unfolding calm
calm-past [] x ys e n m b = cond-false (eqb x 27) _ _ (ne_eqb x 27 n) ∙ cond-false (b && eqb x 63) _ _ (and_right b (eqb x 63) (ne_eqb x 63 m))
calm-past (p ∷ ps) x ys e n m b =
    let h = and_parts (is_plain p) (plain ps) e in
    let q = plain-digit p h.0 in
    cond-false (eqb p 27) _ _ (ne_eqb p 27 q.0) ∙ cond-false (b && eqb p 63) _ _ (and_right b (eqb p 63) (ne_eqb p 63 q.1)) ∙ calm-past ps x ys h.1 n m false
  where
    plain-digit : (p : ℕ) → is_plain p ≡ true → (p ≢ 27) × (p ≢ 63)
    plain-digit p e = (not-esc p e, not-mark p e)
      where
        not-esc : (p : ℕ) → is_plain p ≡ true → p ≢ 27
        not-esc p e = grind (arith, nat_tests)

        not-mark : (p : ℕ) → is_plain p ≡ true → p ≢ 63
        not-mark p e = grind (arith, nat_tests)

pub rests-sequence : (ps : List ℕ) (x : ℕ) → plain ps ≡ true → x ≢ 27 → x ≢ 63 → Rests (27 ∷ 91 ∷ (ps ++ (x ∷ [])))
unfolding Rests calm
rests-sequence ps x e n m ys = ap (calm false true) (append_assoc ps (x ∷ []) ys) ∙ calm-past ps x ys e n m true
