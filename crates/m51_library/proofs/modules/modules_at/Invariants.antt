use Rattle.std.proofs.Common.{◌≡◌, ◌+◌, ◌-◌, ◌≤◌, ◌++◌, length}
use Rattle.std.specs.List.{flat_map}
use Rattle.m51_records.specs.Spelling.{bytes_of}
use Rattle.m51_library.specs.Reading.{modules_at}
use Rattle.m51_library.proofs.Following.{with_front}
use Rattle.m51_library.proofs.modules.modules_at.Given as goal

-- what is read, before what the rest gives, is the whole
abbrev pub invariant-loop-index : goal.invariant-loop-index
invariant-loop-index l = record {
  goes : with_front l.modules.items (modules_at (l.count - l._index) l.total l.next l.rest)
      ≡ modules_at l.count l.total l.number l.bytes;
  spelled : l.bytes ≡ flat_map bytes_of l.modules.items ++ l.rest;
  so_many : length l.modules.items ≡ l._index;
  few : l.next + length l.rest ≤ l.number + length l.bytes;
}
