use Rattle.std.proofs.Common.{◌∙◌, ap, sym}
use Rattle.m51_chain.specs.Outcome.{status_by}
use Rattle.m51_trace.proofs.top.write_trace.Goals as goal

pub returns-in-Ok-clause-written : goal.returns-in-Ok-clause-written
returns-in-Ok-clause-written g c =
    (c.status_by.ensures ∙ ap status_by (sym c.in-Ok.ensures.traced.event_is), c.in-Ok.ensures.traced.text_is)

pub returns-in-Err-clause-written : goal.returns-in-Err-clause-written
returns-in-Err-clause-written g c = (c.in-Err.ensures.cause.failed, c.in-Err.ensures.traced)
