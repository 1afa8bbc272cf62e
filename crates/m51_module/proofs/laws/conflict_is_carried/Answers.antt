use Rattle.m51_module.specs.Plan.{layout_graph}
use Rattle.m51_module.proofs.Conflicts.{conflict_carried}
use Rattle.m51_module.proofs.laws.conflict_is_carried.Goals as goal

pub returns : goal.returns
returns c = λ l m renumbered same s t one two.
    conflict_carried (layout_graph l) (layout_graph m) same s t (renumbered s) (renumbered t) one two
