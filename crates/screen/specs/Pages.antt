-- A page on a screen: rows above, then the block of a text; and the bytes that put another page in its place. Assumes nothing.
use Rattle.std.specs.Prelude.{◌≡◌, ℕ, suc, ◌+◌, ◌-◌, ◌<◌, ◌≤◌, max, true, false, ◌≢◌, List, [], ◌∷◌, ◌++◌}
use Rattle.std.proofs.Math.Utf8.{encode, scalar}
use Rattle.screen.specs.Bytes.{feed}
use Rattle.screen.specs.Output.{refresh_bytes}
use Rattle.screen.specs.Screen.{Geometry, Paper, Screen, block, over, place_col, place_row}
use Rattle.screen.specs.declared.cells.Parser.TheVariants.{Ground}
use Rattle.text.specs.Characters.{is_control}
use Rattle.text.specs.Texts.{Styled}

-- the screen shows the rows `up` above row r, the block of the text from there on, and the cursor at the place (i, j) of the block
pub record OnScreen (d : Geometry) (r : ℕ) (up : Paper) (cs : List ℕ) (i j : ℕ) (s : Screen) : Type 0 where
  pub idle : s.parser ≡ Ground
  pub paper : s.pen.paper ≡ over r up (block d cs).paper
  pub line : s.pen.row ≡ r + i
  pub place : s.pen.col ≡ j
  pub shown : s.top ≤ r
  pub tall : r + place_row d (block d cs) < s.top + d.rows

-- t shows the page with the text ds, the cursor after es; the window has moved just enough since s, and the held mark is as it was
pub record Refreshed (d : Geometry) (r : ℕ) (up : Paper) (ds es : List ℕ) (s t : Screen) : Type 0 where
  pub page : OnScreen d r up ds (place_row d (block d es)) (place_col d (block d es)) t
  pub window : t.top ≡ max s.top (suc (r + place_row d (block d ds)) - d.rows)
  pub held : t.held ≡ s.held

-- a page with the old text cs, the cursor in row i of it, becomes the page with the new text es ++ fs, the cursor after es
abbrev pub Refreshes : Type 0
Refreshes = (d : Geometry) (r : ℕ) (up : Paper) (cs : List ℕ) (i j : ℕ) (s : Screen) (bs es fs : List ℕ)
    → 0 < d.cols → d.cols ≤ 9999 → d.rows ≤ 9999
    → OnScreen d r up cs i j s → i ≤ place_row d (block d cs) → Styled bs (es ++ fs) → place_row d (block d (es ++ fs)) < d.rows
    → Refreshed d r up (es ++ fs) es s (feed d (refresh_bytes d (place_row d (block d cs)) i bs (es ++ fs) es) s)

-- t shows the page with the character c behind the text, the cursor behind it in the same row; window and held mark are as in s
pub record Inserted (d : Geometry) (r : ℕ) (up : Paper) (cs : List ℕ) (c : ℕ) (s t : Screen) : Type 0 where
  pub page : OnScreen d r up (cs ++ (c ∷ [])) (place_row d (block d (cs ++ (c ∷ [])))) (place_col d (block d (cs ++ (c ∷ [])))) t
  pub row : place_row d (block d (cs ++ (c ∷ []))) ≡ place_row d (block d cs)
  pub col : place_col d (block d (cs ++ (c ∷ []))) ≡ place_col d (block d cs) + d.width c
  pub window : t.top ≡ s.top
  pub held : t.held ≡ s.held

-- a character that takes columns and leaves the row unfilled, written by itself at the end of the text
abbrev pub Inserts : Type 0
Inserts = (d : Geometry) (r : ℕ) (up : Paper) (cs : List ℕ) (c : ℕ) (s : Screen)
    → OnScreen d r up cs (place_row d (block d cs)) (place_col d (block d cs)) s
    → scalar c ≡ true → is_control c ≡ false → d.width c ≢ 0 → place_col d (block d cs) + d.width c < d.cols
    → Inserted d r up cs c s (feed d (encode c) s)
