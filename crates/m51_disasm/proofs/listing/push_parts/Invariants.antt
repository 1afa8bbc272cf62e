use Rattle.std.proofs.Common.{◌≡◌, ◌++◌, take}
use Rattle.std.specs.Prelude.{flat_map}
use Rattle.m51_disasm.specs.Lines.{part_lines}
use Rattle.m51_disasm.specs.Texts.{text_of_lines}
use Rattle.m51_disasm.proofs.listing.push_parts.Given as goal

abbrev pub invariant-loop-part : goal.invariant-loop-part
invariant-loop-part l =
    l.text.items ≡ l.initial.text.items ++ text_of_lines (flat_map (part_lines l.image) (take l.part-index l.parts))
