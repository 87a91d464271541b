use Rattle.std.proofs.Common.{sym}
use Rattle.highlight.specs.Partners.{to_light-stands}
use Rattle.highlight.proofs.matching.MatchingBracketHighlighterHighlighter.highlight.Goals as goal

pub answer_lit-requires : goal.answer_lit-requires
answer_lit-requires c =
    (to_light-stands c.args.self.now.bracket c.args.line.now c.in-Some.bracket (sym c.in-Some.ensures)).within
