use Rattle.std.proofs.Common.{◌≡◌, length}
use Rattle.m51_hex.specs.Memory.{memory_in}
use Rattle.m51_hex.specs.Record.{seen}
use Rattle.m51_hex.proofs.StoredBytes.{filled}
use Rattle.m51_hex.proofs.storing.store.Given as goal

abbrev pub invariant-loop-offset : goal.invariant-loop-offset
invariant-loop-offset l = record {
  whole : length l.image ≡ 0x10000;
  memory : memory_in l.image ≡ filled (memory_in l.fn.image) (seen l.«record») l.offset;
}
