use Rattle.m51_party.proofs.Fronts.{at_error}
use Rattle.m51_party.proofs.Progress.{front_at_ends, front_at_head, front_at_steps}
use Rattle.m51_party.proofs.running.write_all.Goals as goal

pub returns-in_err-write_head-clause-front : goal.returns-in_err-write_head-clause-front
returns-in_err-write_head-clause-front g c =
    at_error c.from_residual.result _ (front_at_head c.args.seats.now c.args.n _ _ c.in_err-write_head.ensures.front)

pub returns-in_err-write_steps-clause-front : goal.returns-in_err-write_steps-clause-front
returns-in_err-write_steps-clause-front g c =
    at_error c.from_residual-in_err-write_steps.result _
    (front_at_steps c.args.seats.now c.args.n _ _ _ c.in_ok-write_head.ensures.whole
    c.in_err-write_steps.ensures.front)

pub returns-clause-front : goal.returns-clause-front
returns-clause-front g c =
    front_at_ends c.write_ends.result c.args.seats.now c.args.n _ _ _ _ _ c.in_ok-write_head.ensures.whole
    c.in_ok-write_steps.ensures.whole c.write_ends.ensures.front
