use Rattle.std.proofs.Common.{◌≡◌, ◌≤◌, ◌+◌, ◌*◌, length, take}
use Rattle.std.specs.Prelude.{flat_map}
use Rattle.m51_disasm.specs.Lines.{part_lines}
use Rattle.m51_disasm.proofs.listing.line_count.Given as goal

abbrev pub invariant-loop-part : goal.invariant-loop-part
invariant-loop-part l = record {
  counted : l.count ≡ 2 + length (flat_map (part_lines l.image) (take l.part-index l.parts));
  few : l.count ≤ 2 + 65539 * l.part-index;
}
