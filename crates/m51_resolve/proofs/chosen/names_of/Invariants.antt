use Rattle.m51_resolve.proofs.Common.{take, AreNamed}
use Rattle.m51_resolve.proofs.chosen.names_of.Given as goal

abbrev pub invariant-loop-number : goal.invariant-loop-number
invariant-loop-number l = AreNamed (take l.number l.modules) l.definitions.entries l.wanted.keys
