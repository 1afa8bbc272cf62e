use Rattle.std.proofs.Common.{◌∙◌, refl, sym}
use Rattle.m51_trace.specs.Traces.{Faulty, NoMemory}
use Rattle.m51_trace.proofs.Asking.{no_choice}
use Rattle.m51_trace.proofs.top.trace.Goals as goal

pub returns-in-None-clause-traced : goal.returns-in-None-clause-traced
returns-in-None-clause-traced g c =
    Faulty (no_choice _ (sym c.choice_of.ensures ∙ c.in-None.is)) (record {
      result = c.refuse.result;
      status = c.status_told.ensures;
      text = c.refuse.ensures.written;
    })

pub returns-in-Err-clause-traced : goal.returns-in-Err-clause-traced
returns-in-Err-clause-traced g c = NoMemory refl c.in-Err.ensures.quiet
