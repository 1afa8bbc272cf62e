use Rattle.m51_stackbound.proofs.Common.{take, GoesOn}
use Rattle.m51_stackbound.proofs.walking.Found.note_all.Given as goal

abbrev pub invariant-loop-start : goal.invariant-loop-start
invariant-loop-start l = GoesOn l.fn.self (take l.start-index l.starts) l.self
