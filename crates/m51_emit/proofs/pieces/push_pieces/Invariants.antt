use Rattle.std.proofs.Common.{◌≡◌, ◌++◌, map}
use Rattle.std.specs.List.{range_with_len}
use Rattle.m51_emit.specs.Pieces.{piece_at}
use Rattle.m51_emit.proofs.pieces.push_pieces.Given as goal

abbrev pub invariant-loop-index : goal.invariant-loop-index
invariant-loop-index l =
    l.pieces.items ≡ l.initial.pieces.items ++ map (piece_at l.segment (l.from, l.bytes)) (range_with_len 0 l.index)
