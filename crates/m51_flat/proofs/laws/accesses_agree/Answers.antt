use Rattle.m51_flat.proofs.Readings.{same_accesses}
use Rattle.m51_flat.proofs.laws.accesses_agree.Goals as goal

pub returns : goal.returns
returns c = λ p s m n g h. same_accesses p s m n g h
