use Rattle.std.proofs.Common.{◌+◌, ◌-◌, ◌≤◌, length, take}
use Rattle.std.specs.Io.KnownBytes.{Appends}
use Rattle.m51_shelf.specs.declared.stdout.TheConstants.{MOST_TRIES}
use Rattle.m51_shelf.proofs.keeping.write_all.Given as goal

-- what was taken is a prefix of the bytes
abbrev pub invariant-loop-done : goal.invariant-loop-done
invariant-loop-done g l = record {
  within : l.done ≤ length l.bytes;
  tries : l.interrupted ≤ MOST_TRIES;
  put : Appends (g.W.Write.contents l.initial.file) (g.W.Write.contents l.file) (take l.done l.bytes);
}

abbrev pub decreases-loop-done : goal.decreases-loop-done
decreases-loop-done g l = (length l.bytes - l.done) + (MOST_TRIES - l.interrupted)
