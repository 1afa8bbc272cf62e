use Rattle.std.proofs.Common.{◌+◌, ◌-◌, ◌≤◌, length}
use Rattle.m51_cells.specs.declared.limits.TheConstants.{MOST_FILE_BYTES}
use Rattle.m51_shelf.specs.Reading.{HasTaken}
use Rattle.m51_shelf.specs.Shelf.{AppendsToLast}
use Rattle.m51_shelf.specs.States.{ReadsOn}
use Rattle.m51_shelf.proofs.reading.read_open.Given as goal

abbrev pub invariant-loop-bytes : goal.invariant-loop-bytes
invariant-loop-bytes g l = record {
  few : length l.bytes.items ≤ MOST_FILE_BYTES;
  frame : ReadsOn (g.F.Shelf.state l.fn.files) (g.F.Shelf.state l.files);
  taken : HasTaken (g.F.Shelf.state l.files).reads l.bytes.items;
  given : AppendsToLast (g.F.Shelf.state l.fn.files).reads.given (g.F.Shelf.state l.files).reads.given l.bytes.items;
}

abbrev pub decreases-loop-bytes : goal.decreases-loop-bytes
decreases-loop-bytes g l = MOST_FILE_BYTES + 1 - length l.bytes.items
