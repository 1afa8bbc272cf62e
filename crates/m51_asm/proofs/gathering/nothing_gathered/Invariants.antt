use Rattle.m51_asm.proofs
use proofs.Common.{◌≡◌, nothing_gathered}
use proofs.gathering.nothing_gathered.Given as goal

-- the segments so far
abbrev pub invariant-loop-index : goal.invariant-loop-index
invariant-loop-index l = l.all.items ≡ nothing_gathered l.index
