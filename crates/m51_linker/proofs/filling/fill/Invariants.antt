use Rattle.std.proofs.Common.{flat_map}
use Rattle.std.specs.List.{range_with_len}
use Rattle.m51_linker.specs.Image.{module_content}
use Rattle.m51_linker.specs.Memory.{AreWritten, held_at}
use Rattle.m51_linker.proofs.filling.fill.Given as goal

abbrev pub invariant-loop-module : goal.invariant-loop-module
invariant-loop-module l =
    AreWritten (flat_map (module_content l.joined l.placing) (range_with_len 0 l.«module»)) (held_at l.initial.memory)
    (held_at l.memory)
