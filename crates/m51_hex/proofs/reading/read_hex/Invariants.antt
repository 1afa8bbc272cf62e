use Rattle.std.proofs.Common.{◌≡◌, ◌+◌, ◌≤◌, length}
use Rattle.std.specs.Str.Lines.{lines}
use Rattle.m51_hex.specs.Memory.{memory_in}
use Rattle.m51_hex.specs.Reading.{memory_from}
use Rattle.m51_hex.proofs.LineSteps.{read_on}
use Rattle.m51_hex.proofs.reading.read_hex.Given as goal

abbrev pub invariant-loop-text : goal.invariant-loop-text
invariant-loop-text l = record {
  whole : length l.image ≡ 0x10000;
  passed : l.line + length l.rest ≤ length l.bytes;
  told : read_on (memory_in l.image) (l.line + 1) (lines l.rest) ≡ memory_from l.bytes;
}

abbrev pub decreases-loop-text : goal.decreases-loop-text
decreases-loop-text l = length l.rest
