use Rattle.m51_place.proofs.Refused.{overlay_is_refused as refused}
use Rattle.m51_place.proofs.laws.overlay_is_refused.Goals as goal

pub returns : goal.returns
returns c = refused
