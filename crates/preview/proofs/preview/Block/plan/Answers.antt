use Rattle.std.proofs.Common.{◌≡◌, ℕ, ◌<◌, ◌≤◌, List, ◌++◌, subst, arith, rules}
use Rattle.std.specs.Str.{chars}
use Rattle.layout.specs.declared.layout.Position.{Position}
use Rattle.screen.specs.Screen.{block}
use Rattle.screen.specs.Places.{place_of}
use Rattle.terminal.specs.Windows.{geometry}
use Rattle.text.specs.Texts.{Styled}
use Rattle.preview.proofs.Planning.{end-some, end-place-is, refuses-tall, refuses-none}
use Rattle.preview.proofs.preview.Block.plan.Goals as goal

pub unwrap-end-requires : goal.unwrap-end-requires
unwrap-end-requires g c =
    let k = c.in_ok-count.ensures in
    let f = c.in_ok-check_text_within.ensures in
    end-some g.W.WidthTable.columns g.met.W.WidthTable.narrow c.args.size c.args.self.now.prompt.now _ c.visible_prompt.new.out c.args.self.now.caption.now c.in_ok-count.count k.2 k.1 c.visible_prompt.array_long c.cols.result c.cols.ensures f.0 f.1 c.end_of.result c.end_of.ensures

pub returns-then-end-rows : goal.returns-then-end-rows
returns-then-end-rows g c =
    let k = c.in_ok-count.ensures in
    let f = c.in_ok-check_text_within.ensures in
    let d = geometry g.W.WidthTable.columns c.args.size in
    let cs = k.2.characters in
    let e : c.unwrap-end.result ≡ place_of d (block d (cs ++ chars c.args.self.now.caption.now)) =
    end-place-is g.W.WidthTable.columns g.met.W.WidthTable.narrow c.args.size c.args.self.now.prompt.now _ c.visible_prompt.new.out c.args.self.now.caption.now c.in_ok-count.count k.2 k.1 c.visible_prompt.array_long c.cols.result c.cols.ensures f.0 f.1 c.end_of.result c.unwrap-end.result c.end_of.ensures c.unwrap-end.ensures cs k.2.styled in
    refuses-tall d c.args.self.now.prompt.now c.args.self.now.caption.now cs (k.0, (cs, k.2.styled)) f.0 f.1 k.2.styled (subst (λ (p : Position). c.args.size.rows ≤ p.row) e (let h = c.if-end-rows.true in let r = c.rows.ensures in omega arith))

pub returns : goal.returns
returns g c =
    let k = c.in_ok-count.ensures in
    let f = c.in_ok-check_text_within.ensures in
    let d = geometry g.W.WidthTable.columns c.args.size in
    let e : (cs : List ℕ) → Styled c.args.self.now.prompt.now cs → c.unwrap-end.result ≡ place_of d (block d (cs ++ chars c.args.self.now.caption.now)) =
    end-place-is g.W.WidthTable.columns g.met.W.WidthTable.narrow c.args.size c.args.self.now.prompt.now _ c.visible_prompt.new.out c.args.self.now.caption.now c.in_ok-count.count k.2 k.1 c.visible_prompt.array_long c.cols.result c.cols.ensures f.0 f.1 c.end_of.result c.unwrap-end.result c.end_of.ensures c.unwrap-end.ensures in (
      refuses-none d c.args.self.now.prompt.now c.args.self.now.caption.now (k.0, (k.2.characters, k.2.styled)) f.0 f.1 (λ cs st. subst (λ (p : Position). p.row < c.args.size.rows) (e cs st) (let h = c.if-end-rows.false in let r = c.rows.ensures in omega arith)),
      record { end = e; bracket = search rules },
    )
