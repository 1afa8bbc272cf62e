use Rattle.m51_place.proofs.Tight.{placing_tight}
use Rattle.m51_place.proofs.laws.placing_is_tight.Goals as goal

pub returns : goal.returns
returns c = placing_tight
