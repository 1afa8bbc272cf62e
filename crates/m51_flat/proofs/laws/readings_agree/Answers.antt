use Rattle.m51_flat.proofs.Readings.{readings}
use Rattle.m51_flat.proofs.laws.readings_agree.Goals as goal

pub returns : goal.returns
returns c = λ p s m g. readings p s m g
