use Rattle.m51_party.proofs.Common.{◌≡◌, drop, next_from}
use Rattle.m51_party.proofs.choosing.next.Given as goal

abbrev pub invariant-loop-index : goal.invariant-loop-index
invariant-loop-index l = l.found ≡ next_from l.n l.index (drop l.index l.seats)
