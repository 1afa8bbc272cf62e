use Rattle.std.proofs.Common.{◌∙◌, ap, sym}
use Rattle.m51_monitor.specs.Records.{Records}
use Rattle.m51_monitor.specs.Rising.{interrupts}
use Rattle.m51_cases.proofs.monitor_run.MonitorRun.make.Goals as goal

pub invariant_of-self : goal.invariant_of-self
invariant_of-self c =
    record {
      counted = ap (λ (a : Records). interrupts a.returns) c.commit.ensures.records
          ∙ sym c.taken_after-taken.ensures;
    }
