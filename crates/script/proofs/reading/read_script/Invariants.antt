use Rattle.std.proofs.Common.{◌≡◌, None}
use Rattle.script.specs.Scripts.{said_by}
use Rattle.script.proofs.Progress.{Far}
use Rattle.script.proofs.reading.read_script.Given as goal
use Rattle.text.specs.Lines.{lines_left}

-- the lines before this one have been read
abbrev pub invariant-loop-text : goal.invariant-loop-text
invariant-loop-text l = record {
  far : Far l.bytes (lines_left l.lines) l.line (said_by l.script);
  none : l.script.error ≡ None;
}
