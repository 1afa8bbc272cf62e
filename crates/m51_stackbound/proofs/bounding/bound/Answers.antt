use Rattle.m51_stackbound.proofs.bounding.bound.Goals as goal

pub judged-requires-clause-points : goal.judged-requires-clause-points
judged-requires-clause-points c = rw c.as_slice.ensures (rw c.in-Some.is at c.in_ok-found.ensures)

pub returns-in-None : goal.returns-in-None
returns-in-None c = rw c.in-None.is at c.in_ok-found.ensures
