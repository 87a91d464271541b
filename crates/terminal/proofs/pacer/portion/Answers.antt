use Rattle.terminal.specs.Feeds.{take_min}
use Rattle.terminal.proofs.pacer.portion.Goals as goal

pub returns : goal.returns
returns c = take_min 32 c.min.result c.args.bytes.now c.min.ensures
