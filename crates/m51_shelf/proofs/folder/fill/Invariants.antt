use Rattle.std.proofs.Common.{◌≡◌, ◌+◌, ◌-◌, ◌≤◌, length, take}
use Rattle.std.specs.Io.KnownBytes.{Consumes}
use Rattle.m51_shelf.specs.declared.stdout.TheConstants.{MOST_TRIES}
use Rattle.m51_shelf.proofs.folder.fill.Given as goal

-- what was read is a prefix of the slice
abbrev pub invariant-loop-done : goal.invariant-loop-done
invariant-loop-done g l = record {
  room : length l.into ≡ length l.initial.into;
  within : l.done ≤ length l.into;
  tries : l.interrupted ≤ MOST_TRIES;
  got : Consumes (g.R.Read.remaining l.initial.file) (g.R.Read.remaining l.file) (take l.done l.into);
}

abbrev pub decreases-loop-done : goal.decreases-loop-done
decreases-loop-done g l = (length l.into - l.done) + (MOST_TRIES - l.interrupted)
