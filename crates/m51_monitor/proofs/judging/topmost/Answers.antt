use Rattle.m51_monitor.proofs.Common.{arith, common_steps}
use Rattle.m51_monitor.proofs.Framing.{last_split}
use Rattle.m51_monitor.proofs.judging.topmost.Goals as goal

pub returns : goal.returns
returns c = last_split c.args.frames.now _ (grind (arith, common_steps))
