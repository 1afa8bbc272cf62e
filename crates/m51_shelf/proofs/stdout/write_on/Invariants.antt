use Rattle.std.proofs.Common.{◌+◌, ◌-◌, ◌≤◌, length, take}
use Rattle.std.specs.Io.KnownBytes.{Appends}
use Rattle.m51_shelf.specs.declared.stdout.TheConstants.{MOST_TRIES}
use Rattle.m51_shelf.proofs.stdout.write_on.Given as goal

-- what was taken is a prefix of the piece
abbrev pub invariant-loop-done : goal.invariant-loop-done
invariant-loop-done g l = record {
  within : l.done ≤ length l.piece;
  tries : l.interrupted ≤ MOST_TRIES;
  put : Appends (g.W.Write.contents l.initial.to) (g.W.Write.contents l.to) (take l.done l.piece);
}

abbrev pub decreases-loop-done : goal.decreases-loop-done
decreases-loop-done g l = (length l.piece - l.done) + (MOST_TRIES - l.interrupted)
