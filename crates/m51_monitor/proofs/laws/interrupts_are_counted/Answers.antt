use Rattle.m51_monitor.proofs.Levels.{interrupts_are_counted}
use Rattle.m51_monitor.proofs.laws.interrupts_are_counted.Goals as goal

pub returns : goal.returns
returns c = interrupts_are_counted
