use Rattle.m51_place.proofs.Tight.{figure_is_weight as figure}
use Rattle.m51_place.proofs.laws.figure_is_weight.Goals as goal

pub returns : goal.returns
returns c = figure
