use Rattle.m51_place.proofs.Common.{same_from_decides}
use Rattle.m51_place.proofs.Conflicting.{conflict_tells}
use Rattle.m51_place.proofs.conflicts.in_conflict.Goals as goal

pub returns-then-one-two : goal.returns-then-one-two
returns-then-one-two c = same_from_decides c.conflict.result _ c.conflict.ensures
    (conflict_tells c.args.graph.now c.parts.ensures.kept.units c.args.one c.args.two c.if-one-two.true)
