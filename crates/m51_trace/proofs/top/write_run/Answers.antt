use Rattle.m51_trace.proofs.top.write_run.Goals as goal

pub returns-clause-written : goal.returns-clause-written
returns-clause-written g c = rw c.in-Run.is (rw c.number.ensures.value at c.write_both.ensures.written)
