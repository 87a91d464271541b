use Rattle.std.proofs.Common.{◌≡◌, ℕ, ◌+◌, ◌-◌, ◌≤◌, List, [], ◌∷◌, ◌++◌, length, take, drop, codes, sym, ◌∙◌, append_assoc, arith, length-take, rules}
use Rattle.std.proofs.lemmas.List.{take_rest}
use Rattle.std.proofs.lemmas.Bool.{leb-true}
use Rattle.text.specs.Texts.{style}
use Rattle.highlight.specs.Answers.{Written}
use Rattle.highlight.proofs.Puts.{front-none, front-more}
use Rattle.highlight.proofs.answer.answer_lit.Goals as goal

-- five pieces in a row
in_a_row : (a s z e : List ℕ) (b : ℕ) → (((a ++ s) ++ (b ∷ [])) ++ z) ++ e ≡ a ++ (s ++ (b ∷ (z ++ e)))
in_a_row a s z e b = simp append_assoc

-- the place that is handed back is the one that was written to
handed-back : {allows : List ℕ → Type 0} {text before after last : List ℕ} {n : ℕ} → Written allows text before n after → last ≡ after → Written allows text before n last
handed-back {allows} {text} {before} {after} {last} {n} w e = rw e w

pub returns : goal.returns
returns c =
    let text = c.args.text.now in
    let at = c.args.bracket.at in
    let b = c.args.bracket.byte in
    let one = front-more c.push.new.self.out.now (take at text) c.push.new.self.len (front-none c.args.out.now) c.push.ensures.len c.push.ensures.front c.push.ensures.rest in
    let two = front-more c.push-2.new.self.out.now (style (codes "1;34")) c.push-2.new.self.len one c.push-2.ensures.len c.push-2.ensures.front c.push-2.ensures.rest in
    let three = front-more c.push-3.new.self.out.now (b ∷ []) c.push-3.new.self.len two c.push-3.ensures.len c.push-3.ensures.front c.push-3.ensures.rest in
    let four = front-more c.push-4.new.self.out.now (style (codes "0")) c.push-4.new.self.len three c.push-4.ensures.len c.push-4.ensures.front c.push-4.ensures.rest in
    let five = front-more c.push-5.new.self.out.now (take (length text - (at + 1)) (drop (at + 1) text)) c.push-5.new.self.len four c.push-5.ensures.len c.push-5.ensures.front c.push-5.ensures.rest in
    let parts : (((take at text ++ style (codes "1;34")) ++ (b ∷ [])) ++ style (codes "0")) ++ take (length text - (at + 1)) (drop (at + 1) text) ≡ take at text ++ (style (codes "1;34") ++ (b ∷ (style (codes "0") ++ drop (at + 1) text))) =
    in_a_row (take at text) (style (codes "1;34")) (style (codes "0")) (take (length text - (at + 1)) (drop (at + 1) text)) b ∙ rw take_rest in
    let room : length text + 256 ≤ length c.args.out.now = leb-true (length text + 256) (length c.args.out.now) (sym c.if-not-has_room.ensures) in
    let front = length-take at text in
    let back = length-take (length text - (at + 1)) (drop (at + 1) text) in
    handed-back (record { room = room; within = omega (arith, c.push.ensures.len, c.push-2.ensures.len, c.push-3.ensures.len, c.push-4.ensures.len, c.push-5.ensures.len, c.requires); answer = five.bytes ∙ parts; rest = five.rest }) (search rules)
