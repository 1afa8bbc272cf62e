use Rattle.std.proofs.Common.{◌≡◌, length}
use Rattle.std.specs.List.{All}
use Rattle.m51_shelf.specs.Memory.{IsPlace}
use Rattle.m51_shelf.proofs.mem_shelf.places_of.Given as goal

abbrev pub invariant-loop : goal.invariant-loop
invariant-loop l = record {
  count : length l.buffers.items ≡ l.counter;
  room : All (IsPlace l.room) l.buffers.items;
}
