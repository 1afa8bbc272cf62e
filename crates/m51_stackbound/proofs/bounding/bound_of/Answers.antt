use Rattle.m51_stackbound.proofs.bounding.bound_of.Goals as goal

pub returns-in-Some : goal.returns-in-Some
returns-in-Some c = rw c.in-Some.is at c.in_ok-refusal.ensures

pub bound_by-requires-clause-heights : goal.bound_by-requires-clause-heights
bound_by-requires-clause-heights c = rw c.in-None.is at c.in_ok-refusal.ensures
