use Rattle.m51_sim.proofs.Fitting.{judged_may}
use Rattle.m51_sim.proofs.judging.conclude.Goals as goal

pub returns-in-Ok-clause-may : goal.returns-in-Ok-clause-may
returns-in-Ok-clause-may c =
    (judged_may _ _ _ c.judge_move.result 0 (rw c.in-Ok.is at c.requires.prepared) c.judge_move.ensures.answers).0

pub returns-in-Ok-clause-text : goal.returns-in-Ok-clause-text
returns-in-Ok-clause-text c =
    (judged_may _ _ _ c.judge_move.result _ (rw c.in-Ok.is at c.requires.prepared) c.judge_move.ensures.answers).1

pub unwritten-requires : goal.unwritten-requires
unwritten-requires c =
    let cell = rw c.in-Err-Unset.is at c.in-Err-Unset.field-0-is in rw (c.in-Err-Unset.is, cell) at c.requires.named

pub returns-in-Err-Outside-clause-text : goal.returns-in-Err-Outside-clause-text
returns-in-Err-Outside-clause-text c =
    let cell = rw c.in-Err-Outside.is at c.in-Err-Outside.field-0-is in
    rw (c.in-Err-Outside.is, cell) at c.requires.named
