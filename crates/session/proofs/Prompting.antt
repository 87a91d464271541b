-- Where a prompt ends.
use Rattle.std.proofs.Common.{◌≡◌, ℕ, ◌+◌, ◌≤◌, true, List, length, is_some, IfSome, Some, Option, sym, ap, ◌∙◌, subst, arith}
use Rattle.buffer.proofs.Buffers.{contents-short}
use Rattle.judging.specs.Judgements.{Behind}
use Rattle.layout.specs.declared.layout.Position.{Position}
use Rattle.lines.specs.Prompts.{visible_of}
use Rattle.lines.specs.declared.prompt.Prompt.{Prompt}
use Rattle.measuring.proofs.Reaching.{some_same}
use Rattle.measuring.specs.Measured.{Walks}
use Rattle.page.proofs.Computing.{good-text}
use Rattle.page.proofs.Spelt.{good-decodes}
use Rattle.screen.specs.Places.{top_left}
use Rattle.std.specs.Str.{chars}
use Rattle.terminal.specs.declared.size.Size.{Size}
use Rattle.text.specs.Texts.{GoodText}

module _ (w : ℕ → ℕ) (p : Prompt) (z : Size) (text : List ℕ) (cols : ℕ) (is : text ≡ visible_of p) (sized : cols ≡ z.cols) (r : Option Position) (h : Walks w cols top_left text r) where
  good : GoodText (visible_of p)
  good = good-text (visible_of p) p.good

  short : length (visible_of p) ≤ 512
  short = contents-short p.visible

  walks : Walks w z.cols top_left (visible_of p) r
  walks = subst (λ x. Walks w z.cols top_left x r) is (subst (λ n. Walks w n top_left text r) sized h)

  pub prompt-some : is_some r ≡ true
  prompt-some = let s = short in ap is_some (walks.reached z.wide good (omega arith))

  pub prompt-behind : (q : Position) → r ≡ Some q → Behind w z (chars (visible_of p)) q
  prompt-behind q e =
      let s = short in
      let row : IfSome (Some q) (λ y. y.row ≤ 0 + length (visible_of p)) = subst (λ o. IfSome o (λ y. y.row ≤ 0 + length (visible_of p))) e walks.rows in
      record {
        good = good-decodes (visible_of p) good;
        prompt = record { wide = z.wide; place = some_same (sym e ∙ walks.reached z.wide good (omega arith)); low = omega arith };
      }
