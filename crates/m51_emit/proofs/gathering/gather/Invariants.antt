use Rattle.std.proofs.Common.{◌≡◌, take}
use Rattle.m51_emit.specs.Gathering.{all_pieces, all_fixups}
use Rattle.m51_emit.proofs.gathering.gather.Given as goal

abbrev pub invariant-loop-segment : goal.invariant-loop-segment
invariant-loop-segment l = record {
  pieces : l.pieces.items ≡ all_pieces (take l.segment-index l.segments);
  fixups : l.fixups.items ≡ all_fixups (take l.segment-index l.segments);
}
