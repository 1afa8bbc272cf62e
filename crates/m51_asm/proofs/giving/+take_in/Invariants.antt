use Rattle.m51_asm.proofs
use proofs.Common.{length}
use proofs.giving.+take_in.Given as goal

abbrev pub decreases-take_in : goal.decreases-take_in
decreases-take_in l = length l.defined.now
