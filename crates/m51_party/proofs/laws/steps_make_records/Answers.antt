use Rattle.m51_party.proofs.One.{steps_make_records}
use Rattle.m51_party.proofs.laws.steps_make_records.Goals as goal

pub returns : goal.returns
returns c = steps_make_records
