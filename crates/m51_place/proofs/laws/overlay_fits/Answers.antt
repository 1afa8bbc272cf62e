use Rattle.m51_place.proofs.Refused.{overlay_fits as all_fit}
use Rattle.m51_place.proofs.laws.overlay_fits.Goals as goal

pub returns : goal.returns
returns c = all_fit
