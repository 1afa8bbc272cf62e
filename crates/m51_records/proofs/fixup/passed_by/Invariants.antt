use Rattle.std.proofs.Common.{◌-◌, ◌≤◌, length, take}
use Rattle.m51_records.specs.WorkPieces.{EndBy}
use Rattle.m51_records.proofs.fixup.passed_by.Given as goal

abbrev pub invariant-loop-passed : goal.invariant-loop-passed
invariant-loop-passed l = record {
  few : l.passed ≤ length l.pieces;
  passed : EndBy l.segment l.offset (take l.passed l.pieces);
}

abbrev pub decreases-loop-passed : goal.decreases-loop-passed
decreases-loop-passed l = length l.pieces - l.passed
