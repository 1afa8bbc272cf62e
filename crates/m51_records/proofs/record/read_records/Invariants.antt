use Rattle.std.proofs.Common.{◌≡◌, ◌+◌, ◌≤◌, length}
use Rattle.m51_records.specs.Reading.{all_at}
use Rattle.m51_records.proofs.FrameLaws.{Stands}
use Rattle.m51_records.proofs.record.read_records.Given as goal

abbrev pub invariant-loop-alloc : goal.invariant-loop-alloc
invariant-loop-alloc g l = record {
  stands : Stands l.record_type (g.R.Reader.reads l.fn.reader) l.total l.number l.items.items l.rest
      (all_at l.record_type (g.R.Reader.reads l.fn.reader) l.total l.number l.bytes);
  same : g.R.Reader.reads l.state ≡ g.R.Reader.reads l.fn.reader;
  knows : g.R.Reader.knows l.state l.items.items;
  few : length l.items.items + length l.rest ≤ length l.bytes;
}

abbrev pub decreases-loop-alloc : goal.decreases-loop-alloc
decreases-loop-alloc g l = length l.rest
