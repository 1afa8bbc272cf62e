use Rattle.std.proofs.Common.{◌≡◌, take}
use Rattle.std.specs.List.{filter_map}
use Rattle.m51_linker.specs.Broken.{broken_spot, least_of}
use Rattle.m51_linker.specs.Image.{placed_field}
use Rattle.m51_linker.specs.Memory.{AreWritten, image_at}
use Rattle.m51_linker.proofs.patching.patch_module.Given as goal

abbrev pub invariant-loop-fixup : goal.invariant-loop-fixup
invariant-loop-fixup l = record {
  put : AreWritten (filter_map (placed_field l.joined l.placing l.«module») (take l.fixup-index l.fixup-items))
      (image_at l.initial.image) (image_at l.image);
  broken : l.broken ≡ least_of
      (filter_map (broken_spot l.joined l.placing l.«module») (take l.fixup-index l.fixup-items));
}
