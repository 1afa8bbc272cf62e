use Rattle.std.proofs.Common.{◌≡◌, flat_map}
use Rattle.std.specs.List.{range_with_len}
use Rattle.m51_linker.specs.Broken.{least_of, module_broken}
use Rattle.m51_linker.specs.Image.{module_fields}
use Rattle.m51_linker.specs.Memory.{AreWritten, image_at}
use Rattle.m51_linker.proofs.patching.patch.Given as goal

abbrev pub invariant-loop-module : goal.invariant-loop-module
invariant-loop-module l = record {
  put : AreWritten (flat_map (module_fields l.joined l.placing) (range_with_len 0 l.«module»))
      (image_at l.initial.image) (image_at l.image);
  broken : l.broken ≡ least_of (flat_map (module_broken l.joined l.placing) (range_with_len 0 l.«module»));
}
