use Rattle.m51_graph.proofs.Walking.{level_function}
use Rattle.m51_graph.proofs.laws.level_is_longest.Goals as goal

pub returns : goal.returns
returns c = λ edges unit level h below. level_function edges unit level h below
