use Rattle.std.proofs.Common.{◌≡◌, length}
use Rattle.m51_linker.specs.Memory.{image_at, IsPut}
use Rattle.m51_linker.proofs.memory.put_bytes.Given as goal

abbrev pub invariant-loop-index : goal.invariant-loop-index
invariant-loop-index l = record {
  len : length l.image ≡ 65536;
  put : IsPut l.at l.bytes l.index (image_at l.initial.image) (image_at l.image);
}
