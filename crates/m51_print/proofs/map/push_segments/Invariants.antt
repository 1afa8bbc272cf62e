use Rattle.std.proofs.Common.{◌≡◌, ◌++◌, take}
use Rattle.std.specs.Prelude.{flat_map}
use Rattle.m51_print.specs.Map.{segment_line}
use Rattle.m51_print.proofs.map.push_segments.Given as goal

abbrev pub invariant-loop-extent : goal.invariant-loop-extent
invariant-loop-extent l = l.text.items ≡ l.fn.text.items ++ flat_map segment_line (take l.extent-index l.placed)
