use Rattle.m51_monitor.proofs.Common.{AreSet}
use Rattle.m51_monitor.proofs.bits.Flags.set_each.Given as goal

abbrev pub invariant-loop-index : goal.invariant-loop-index
invariant-loop-index l = AreSet l.from l.index l.value l.fn.self l.self
