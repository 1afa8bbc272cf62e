use Rattle.std.proofs.Common.{◌∙◌, ap, sym}
use Rattle.m51_trace.specs.Requests.{is_run}
use Rattle.m51_trace.proofs.words.is_run.Goals as goal

pub returns-in-Ok : goal.returns-in-Ok
returns-in-Ok c = c.is_run_of.ensures ∙ ap is_run (sym c.in-Ok.ensures)

pub returns-in-Err-Usage : goal.returns-in-Err-Usage
returns-in-Err-Usage c = ap is_run (sym (rw c.in-Err-Usage.field-0-is at c.in-Err-Usage.ensures))
