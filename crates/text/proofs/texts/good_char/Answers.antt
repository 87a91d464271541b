-- `good_char` meets its contract. Assumes nothing.
use Rattle.text.proofs.Spelling.{good-front}
use Rattle.text.proofs.texts.good_char.Goals as goal

pub returns : goal.returns
returns c = rw c.then_some.ensures (good-front c.args.bytes.now c.in_ok-found.found c.is_good.result c.in_ok-found.ensures c.is_good.ensures)
