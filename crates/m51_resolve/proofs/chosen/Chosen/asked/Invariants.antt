use Rattle.m51_resolve.proofs.Common.{◌++◌, map, take, AreWanted}
use Rattle.m51_resolve.proofs.chosen.Chosen.asked.Given as goal

abbrev pub invariant-loop-member : goal.invariant-loop-member
invariant-loop-member l = AreWanted (l.self ++ take l.member-index (map (λ m. m.now) l.members)) l.names.keys
