use Rattle.m51_stackbound.proofs.bounding.tangle.Goals as goal

pub returns-in-Some : goal.returns-in-Some
returns-in-Some c = (c.requires.rules, rw c.in-Some.is at c.in_ok-cyclic.ensures)

pub twice-requires-clause-apart : goal.twice-requires-clause-apart
twice-requires-clause-apart c =
    record { rules = c.requires.rules; no_cycle = rw c.in-None.is at c.in_ok-cyclic.ensures }
