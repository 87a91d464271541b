-- The layout of prompt, line and note in a window. Assumes nothing.
use Rattle.std.proofs.Common.{◌≡◌, ℕ, ◌<◌, ◌≤◌, false, ◌&&◌, eqb, ltb, leb, List, [], ◌++◌, take, drop, Some, None, Option, sym, ap, ◌∙◌, subst, append_assoc, append-nil, le_trans, arith}
use Rattle.layout.proofs.GoodTexts.{walk_place-append}
use Rattle.layout.specs.Drawing.{walk_place}
use Rattle.layout.specs.Laying.{Lays, ordered}
use Rattle.layout.specs.Measuring.{at_end}
use Rattle.layout.specs.declared.block.Layout.{Layout}
use Rattle.layout.specs.declared.layout.Position.{Position}
use Rattle.measuring.proofs.Reaching.{some_same}
use Rattle.measuring.specs.Measured.{Computes, EndsFor, LaysText, PromptAt, Walks}
use Rattle.measuring.specs.declared.measuring.LineEnds.{LineEnds}
use Rattle.page.proofs.Spelt.{cut-decodes, good-cut, good-decodes}
use Rattle.page.specs.Rules.{AtBoundary}
use Rattle.screen.proofs.Counting.{block-place, draw-col, draw-spot}
use Rattle.screen.proofs.Heights.{draw-append, place-col, place-draw}
use Rattle.screen.specs.Places.{place_of, top_left}
use Rattle.screen.specs.Screen.{Geometry, Pen, blank_pen, block, full, place_col, place_row}
use Rattle.std.proofs.lemmas.Bool.{and_parts, ltb-true}
use Rattle.std.proofs.lemmas.Bool.Decides.{nat_tests}
use Rattle.std.specs.Str.{chars}
use Rattle.terminal.specs.Windows.{geometry}
use Rattle.terminal.specs.declared.size.Size.{Size}
use Rattle.text.proofs.Spelling.{all-good-append}
use Rattle.text.specs.Characters.{AllGood}
use Rattle.text.specs.Texts.{GoodText}

-- a cursor that is in its row stands behind a full one exactly in the column past the last
full_is : (d : Geometry) (p : Pen) → p.col ≤ d.cols → eqb p.col d.cols ≡ full d p
unfolding full
full_is d p h = grind (arith, nat_tests)

-- the only reason against a layout of places in order
tall : (rows end col prompt row : ℕ) → ((ltb end rows && (ltb end 200 && ltb col 500)) && (leb prompt row && leb row end)) ≡ false → rows ≤ 200 → col < 500 → prompt ≤ row → row ≤ end → rows ≤ end
tall rows end col prompt row e a b c d = grind (arith, nat_tests)

-- rows never go up
block_row : (d : Geometry) (cs ds : List ℕ) → AllGood ds → 0 < d.cols → place_row d (block d cs) ≤ place_row d (block d (cs ++ ds))
block_row d cs ds good pos = subst (λ (x : Pen). place_row d (block d cs) ≤ place_row d x) (sym (draw-append d cs ds blank_pen)) (place-draw d ds (block d cs) good pos)

module _ (w : ℕ → ℕ) (narrow : (c : ℕ) → w c ≤ 2) (z : Size) where
  abbrev Window : Geometry
  Window = geometry w z

  fits : (c : ℕ) → w c ≤ z.cols
  fits c = le_trans (narrow c) z.wide

  abbrev At : List ℕ → Position → Type 0
  At cs p = p ≡ walk_place z.cols w cs top_left

  pub place_is : (p : Position) (cs : List ℕ) → AllGood cs → At cs p → at_end z.cols p ≡ place_of Window (block Window cs)
  place_is p cs good e = ap (at_end z.cols) e ∙ block-place Window fits cs good

  pub fills : (p : Position) (cs : List ℕ) → AllGood cs → At cs p → eqb p.col z.cols ≡ full Window (block Window cs)
  fills p cs good e =
      ap (λ (x : Position). eqb x.col z.cols) (e ∙ draw-spot Window fits cs blank_pen good (omega arith))
      ∙ full_is Window (block Window cs) (draw-col Window fits cs blank_pen good (omega arith))

  -- the layout of places that three texts lead to, each the next one's front
  lays : (p c e : Position) (ps xs ys : List ℕ) → AllGood ps → AllGood xs → AllGood ys → At ps p → At (ps ++ xs) c → At ((ps ++ xs) ++ ys) e → (r : Option Layout) → Lays z.cols z.rows p c e r → LaysText Window ps (ps ++ xs) ((ps ++ xs) ++ ys) r
  lays p c e ps xs ys gp gx gy ip ic ie (Some l) (o, a) =
      let gf = all-good-append ps xs gp gx in
      let gt = all-good-append (ps ++ xs) ys gf gy in
      let P = place_is p ps gp ip in
      let C = place_is c (ps ++ xs) gf ic in
      let E = place_is e ((ps ++ xs) ++ ys) gt ie in (
        subst (λ (q : Position). q.row < z.rows) E (ltb-true _ _ (and_parts _ _ (and_parts _ _ o).0).0),
        record { prompt = a.prompt ∙ P; cursor = a.cursor ∙ C; end = a.end ∙ E; full = a.full ∙ fills e ((ps ++ xs) ++ ys) gt ie },
      )
  lays p c e ps xs ys gp gx gy ip ic ie None o =
      let gf = all-good-append ps xs gp gx in
      let gt = all-good-append (ps ++ xs) ys gf gy in
      let P = place_is p ps gp ip in
      let C = place_is c (ps ++ xs) gf ic in
      let E = place_is e ((ps ++ xs) ++ ys) gt ie in
      let pos : 0 < z.cols = omega (arith, z.wide) in
      let col = place-col Window (block Window (ps ++ xs)) pos in
      tall z.rows (place_row Window (block Window ((ps ++ xs) ++ ys))) (place_col Window (block Window (ps ++ xs))) (place_row Window (block Window ps)) (place_row Window (block Window (ps ++ xs)))
      ((λ i. ordered z.rows (sym P i) (sym C i) (sym E i)) ∙ o) z.low (omega (arith, z.narrow)) (block_row Window ps xs gx pos) (block_row Window (ps ++ xs) ys gy pos)

  -- behind the line stands what comes behind its edit position
  split : (ps line ns : List ℕ) (q : ℕ) → AtBoundary line q → (ps ++ chars (take q line)) ++ (chars (drop q line) ++ ns) ≡ ps ++ (chars line ++ ns)
  split ps line ns q cut =
      append_assoc ps (chars (take q line)) (chars (drop q line) ++ ns)
      ∙ ap (λ (x : List ℕ). ps ++ x) (sym (append_assoc (chars (take q line)) (chars (drop q line)) ns) ∙ ap (λ (x : List ℕ). x ++ ns) (sym (cut-decodes line q cut)))

  -- the layout with a note's characters
  noted : (p : Position) (line : LineEnds) (e : Position) (r : Option Layout) (ps bs ns : List ℕ) (q : ℕ) → AllGood ps → PromptAt w z.cols ps p → GoodText bs → AtBoundary bs q → EndsFor w z.cols ps bs q line → AllGood ns
      → At (ps ++ (chars bs ++ ns)) e → Lays z.cols z.rows p line.cursor e r → LaysText Window ps (ps ++ chars (take q bs)) (ps ++ (chars bs ++ ns)) r
  noted p line e r ps bs ns q gp at good cut ends gn ie l =
      let two = good-cut bs q good cut in
      let same = split ps bs ns q cut in
      subst (λ (x : List ℕ). LaysText Window ps (ps ++ chars (take q bs)) x r) same
      (lays p line.cursor e ps (chars (take q bs)) (chars (drop q bs) ++ ns) gp (good-decodes (take q bs) two.0) (all-good-append (chars (drop q bs)) ns (good-decodes (drop q bs) two.1) gn) at.place ends.cursor
      (ie ∙ ap (λ (x : List ℕ). walk_place z.cols w x top_left) (sym same)) r l)

  module _ (p : Position) (line : LineEnds) (e : Position) (r : Option Layout) (note : Option (List ℕ)) (cols rows : ℕ) (sized : cols ≡ z.cols) (high : rows ≡ z.rows) (laid : Lays cols rows p line.cursor e r) where
    in_window : Lays z.cols z.rows p line.cursor e r
    in_window = subst (λ (n : ℕ). Lays z.cols n p line.cursor e r) high (subst (λ (n : ℕ). Lays n rows p line.cursor e r) sized laid)

    -- with no note the line's end is the block's
    pub computes_none : note ≡ None → e ≡ line.end → Computes w z p line note r
    computes_none none same = subst (λ (o : Option (List ℕ)). Computes w z p line o r) (sym none) ends-with-line
      where
        ends-with-line : Computes w z p line None r
        ends-with-line ps bs q gp at good cut ends fine =
            noted p line e r ps bs [] q gp at good cut ends tt (same ∙ ends.end ∙ ap (λ (x : List ℕ). walk_place z.cols w (ps ++ x) top_left) (sym (append-nil (chars bs)))) in_window

    -- a note ends behind it
    pub computes-some : (t : List ℕ) (f : Position) (n : ℕ) → note ≡ Some t → e ≡ f → n ≡ z.cols → Walks w n line.end t (Some f) → Computes w z p line note r
    computes-some t f n some same wide walks = subst (λ (o : Option (List ℕ)). Computes w z p line o r) (sym some) ends-with-note
      where
        ends-with-note : Computes w z p line (Some t) r
        ends-with-note ps bs q gp at good cut ends fine =
            let low = ends.low in
            let len = fine.1 in
            let walked : Walks w z.cols line.end t (Some f) = subst (λ (k : ℕ). Walks w k line.end t (Some f)) wide walks in
            noted p line e r ps bs (chars t) q gp at good cut ends (good-decodes t fine.0)
            (same ∙ some_same (walked.reached z.wide fine.0 (omega arith))
            ∙ ap (walk_place z.cols w (chars t)) ends.end
            ∙ sym (walk_place-append w z.cols (ps ++ chars bs) (chars t) top_left)
            ∙ ap (λ (x : List ℕ). walk_place z.cols w x top_left) (append_assoc ps (chars bs) (chars t))) in_window
