use Rattle.std.proofs.Common.{◌≡◌, ◌++◌, take}
use Rattle.std.specs.Prelude.{flat_map}
use Rattle.m51_emit.specs.Pieces.{pieces_of_run}
use Rattle.m51_emit.proofs.gathering.SegmentContent.push_pieces.Given as goal

abbrev pub invariant-loop-from : goal.invariant-loop-from
invariant-loop-from l =
    l.pieces.items ≡ l.initial.pieces.items ++ flat_map (pieces_of_run l.self.segment) (take l.from-index l.self.runs)
