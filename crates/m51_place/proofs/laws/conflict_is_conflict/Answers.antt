use Rattle.m51_place.proofs.Conflicting.{conflict_tells}
use Rattle.m51_place.proofs.laws.conflict_is_conflict.Goals as goal

pub returns : goal.returns
returns c g s t is differ = conflict_tells g is.units s t differ
