use Rattle.std.proofs.Common.{◌≡◌, ◌++◌, map, take}
use Rattle.m51_emit.specs.Pieces.{fixup_of}
use Rattle.m51_emit.proofs.fixups.push_fixups.Given as goal

abbrev pub invariant-loop-byte : goal.invariant-loop-byte
invariant-loop-byte l =
    l.fixups.items ≡ l.initial.fixups.items ++ map (fixup_of l.segments l.segment l.at) (take l.byte-index l.references)
