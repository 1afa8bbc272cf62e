use Rattle.m51_resolve.proofs.Common.{map, take, AreAskedFor}
use Rattle.m51_resolve.proofs.choosing.definitions_of.Given as goal

abbrev pub invariant-loop-number : goal.invariant-loop-number
invariant-loop-number l = AreAskedFor l.asked.keys (take l.number (map (λ m. m.now) l.members)) l.definitions.entries
