use Rattle.m51_module.proofs.NotedNames.{HasAll}
use Rattle.m51_module.proofs.public_names.PublicNames.with_all.Given as goal

abbrev pub invariant-loop-member : goal.invariant-loop-member
invariant-loop-member l = HasAll l.fn.self l.members l.member-index l.names
