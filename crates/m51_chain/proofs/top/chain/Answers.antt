use Rattle.m51_chain.proofs.Completed.{completed, due_caused, due_told, holds_but_kept}
use Rattle.m51_chain.proofs.top.chain.Goals as goal

pub returns-in-Ok-clause-told : goal.returns-in-Ok-clause-told
returns-in-Ok-clause-told g c = λ held is.
    due_told _ held _ _ _ _ is (rw (← c.carry_out.ensures.reads) at c.in-Ok.ensures.due)
    (rw c.in-Ok.ensures.frame.keeps at c.carry_out.ensures.carried)

pub returns-in-Ok-clause-cause : goal.returns-in-Ok-clause-cause
returns-in-Ok-clause-cause g c =
    due_caused _ _ _ _ _ (rw (← c.carry_out.ensures.reads) at c.in-Ok.ensures.due)
    (rw c.in-Ok.ensures.frame.keeps at c.carry_out.ensures.carried)

pub returns-in-Ok-clause-complete : goal.returns-in-Ok-clause-complete
returns-in-Ok-clause-complete g c = λ held answer is answered.
    completed _ held _ answer _
    (due_told _ held _ _ _ _ is (rw (← c.carry_out.ensures.reads) at c.in-Ok.ensures.due)
    (rw c.in-Ok.ensures.frame.keeps at c.carry_out.ensures.carried))
    answered

pub returns-in-Ok-clause-holds : goal.returns-in-Ok-clause-holds
returns-in-Ok-clause-holds g c =
    holds_but_kept _ _ _ _ _ _ c.in-Ok.ensures.due (rw c.in-Ok.ensures.frame.holds at c.carry_out.ensures.holds)
