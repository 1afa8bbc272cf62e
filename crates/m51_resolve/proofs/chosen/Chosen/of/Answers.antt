use Rattle.m51_resolve.proofs.chosen.Chosen.of.Goals as goal

pub invariant_of-result : goal.invariant_of-result
invariant_of-result c = rw (← c.deref.ensures.value) c.in_ok-definitions.ensures
