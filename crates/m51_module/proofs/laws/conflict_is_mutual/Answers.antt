use Rattle.m51_module.specs.Plan.{layout_graph}
use Rattle.m51_module.proofs.Conflicts.{conflict_back}
use Rattle.m51_module.proofs.laws.conflict_is_mutual.Goals as goal

pub returns : goal.returns
returns c = λ l s t conflict. conflict_back (layout_graph l) s t conflict
