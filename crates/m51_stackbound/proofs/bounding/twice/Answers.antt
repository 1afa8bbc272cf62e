use Rattle.m51_stackbound.proofs.bounding.twice.Goals as goal

pub returns-in-Some : goal.returns-in-Some
returns-in-Some c = (c.requires.apart, rw c.in-Some.is at c.in_ok-doubled.ensures)

pub returns-in-None : goal.returns-in-None
returns-in-None c = record { apart = c.requires.apart; one_height = rw c.in-None.is at c.in_ok-doubled.ensures }
