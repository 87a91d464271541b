-- Characters that stand at the front of some bytes. Assumes nothing.
use Rattle.std.proofs.Common.{◌≡◌, ℕ, ◌+◌, true, false, eqb, List, [], ◌∷◌, ◌++◌, drop, sym, refl, ap, ◌∙◌, ◌≤◌, length, subst, append_assoc, append-nil, arith, length-append, length-drop}
use lib.Utf8.{encode, encodes, scalar, scalars}
use Rattle.std.proofs.lemmas.Bool.{and_from, and_parts, both_ways, eq-eqb, ne_eqb}
use Rattle.std.proofs.lemmas.Str.{encodes-append, encode_same, length-encode, len_utf8_bounds}
use Rattle.std.proofs.lemmas.List.{drop-drop}
use Rattle.text.specs.Decoding.{Front}
use Rattle.text.specs.declared.decode.Decoded.{Decoded}
use Rattle.text.specs.Characters.{is_control}
use Rattle.widths.specs.Clusters.{is_mark}
use Rattle.widths.specs.Walks.{TakenChar}
use Rattle.widths.specs.Fronts.{AllMarks, NoMark, is_bare, FrontText, FrontMarks, FrontCluster, cluster_of}
use Rattle.widths.proofs.Clustering.{marks-width}

pub scalars-append : (cs ds : List ℕ) → scalars cs ≡ true → scalars ds ≡ true → scalars (cs ++ ds) ≡ true
scalars-append [] ds p q = q
scalars-append (c ∷ cs) ds p q =
    let h = and_parts (scalar c) (scalars cs) p in
    and_from (scalar c) (scalars (cs ++ ds)) h.0 (scalars-append cs ds h.1 q)

pub marks-append : (w : ℕ → ℕ) (cs ds : List ℕ) → AllMarks w cs → AllMarks w ds → AllMarks w (cs ++ ds)
marks-append w [] ds p q = q
marks-append w (c ∷ cs) ds p q = (p.0, marks-append w cs ds p.1 q)

pub front-none : (bs : List ℕ) → FrontText [] bs 0
front-none bs = record { valid = refl; bytes = refl; taken = refl }

-- characters behind characters
pub front-more : (cs ds bs : List ℕ) (m n : ℕ) → FrontText cs bs m → FrontText ds (drop m bs) n → FrontText (cs ++ ds) bs (m + n)
front-more cs ds bs m n f h =
    record {
      valid = scalars-append cs ds f.valid h.valid;
      bytes = f.bytes ∙ ap (λ x. encodes cs ++ x) (h.bytes ∙ ap (λ x. encodes ds ++ x) (drop-drop n m bs))
          ∙ sym (append_assoc (encodes cs) (encodes ds) (drop (m + n) bs))
          ∙ ap (λ x. x ++ drop (m + n) bs) (sym (encodes-append cs ds));
      taken = simp (encodes-append, length-append) (omega arith);
    }

-- one character
pub front-one : (bs : List ℕ) (d : Decoded) → Front bs d → FrontText (d.code ∷ []) bs d.len
front-one bs d f = record {
  valid = and_from (scalar d.code) true f.valid refl;
  bytes = rw append-nil f.bytes;
  taken = rw append-nil f.len;
}

-- marks of so many bytes stand at the front of the bytes, and others are left
pub record Passed (w : ℕ → ℕ) (bs : List ℕ) (n : ℕ) (left : List ℕ) : Type 0 where
  pub marks : FrontMarks w bs n
  pub others : left ≡ drop n bs
  pub within : n ≤ length bs

pub passed-none : (w : ℕ → ℕ) (bs : List ℕ) → Passed w bs 0 bs
passed-none w bs = record { marks = record { marks = []; all-marks = tt; front = front-none bs }; others = refl; within = omega arith }

-- one mark more
pub passed-more : (w : ℕ → ℕ) (bs left after : List ℕ) (n : ℕ) (d : Decoded) → Passed w bs n left → TakenChar left d after → is_mark w d.code ≡ true → Passed w bs (n + d.len) after
passed-more w bs left after n d p t mark =
    let f = p.marks in
    let len = ap length p.others ∙ length-drop n bs in
    let more = t.within in
    let within = p.within in
    record {
      marks = record {
        marks = f.marks ++ (d.code ∷ []);
        all-marks = marks-append w f.marks (d.code ∷ []) f.all-marks (mark, tt);
        front = front-more f.marks (d.code ∷ []) bs n d.len f.front (subst (λ l. FrontText (d.code ∷ []) l d.len) p.others (front-one left d t.front));
      };
      others = t.others ∙ ap (drop d.len) p.others ∙ drop-drop d.len n bs;
      within = omega arith;
    }

-- a character that is no mark
pub no-mark-front : (w : ℕ → ℕ) (bs : List ℕ) (d : Decoded) → Front bs d → is_mark w d.code ≡ false → NoMark w bs
no-mark-front w bs d f not-mark c rest valid e =
    ap (is_mark w) (encode_same c d.code rest (drop d.len bs) (sym e ∙ f.bytes)).0 ∙ not-mark

-- past the marks stands a character that is none
pub passed-stop : (w : ℕ → ℕ) (bs left after : List ℕ) (n : ℕ) (d : Decoded) → Passed w bs n left → TakenChar left d after → is_mark w d.code ≡ false → NoMark w (drop n bs)
passed-stop w bs left after n d p t not-mark = subst (NoMark w) p.others (no-mark-front w left d t.front not-mark)

-- marks of no byte are none
pub bare-front : (bs ms : List ℕ) (n : ℕ) → FrontText ms bs n → eqb n 0 ≡ is_bare ms
bare-front bs [] n f = eq-eqb n 0 f.taken
bare-front bs (m ∷ ms) n f =
    let long = (len_utf8_bounds m).0 in
    let len = length-encode m in
    let sum = length-append (encode m) (encodes ms) in
    let t = f.taken in
    ne_eqb n 0 (λ e. omega arith)

-- so many bytes of marks at the front of what stands behind the character d, which a control does not have
pub record Behind (w : ℕ → ℕ) (d : Decoded) (rest : List ℕ) (n : ℕ) : Type 0 where
  pub marks : FrontMarks w rest n
  pub alone : is_control d.code ≡ true → n ≡ 0
  pub next : is_control d.code ≡ false → NoMark w (drop n rest)

-- a character and the marks behind it are a cluster
pub cluster-front : (w : ℕ → ℕ) (bs rest : List ℕ) (d : Decoded) (n : ℕ) → Front bs d → rest ≡ drop d.len bs → Behind w d rest n → FrontCluster w bs (cluster_of w d n)
cluster-front w bs rest d n f is b = record {
  marks = b.marks.marks;
  all-marks = b.marks.all-marks;
  front = front-more (d.code ∷ []) b.marks.marks bs d.len n (front-one bs d f) (subst (λ l. FrontText b.marks.marks l n) is b.marks.front);
  alone = λ h. none b.marks.marks b.marks.front (b.alone h);
  next = λ h. subst (NoMark w) (ap (drop n) is ∙ drop-drop n d.len bs) (b.next h);
  bare = bare-front rest b.marks.marks n b.marks.front;
  width = let z = marks-width w b.marks.marks b.marks.all-marks in omega arith;
}
  where
    none : (xs : List ℕ) → FrontText xs rest n → n ≡ 0 → xs ≡ []
    none [] h e = refl
    none (x ∷ xs) h e = let bare = bare-front rest (x ∷ xs) n h in absurd (both_ways _ bare (eq-eqb n 0 e))
