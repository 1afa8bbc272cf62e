use Rattle.m51_stackbound.proofs.Common.{take}
use Rattle.m51_stackbound.specs.Callers.{AreRowsOf}
use Rattle.m51_stackbound.proofs.calls.rows_of.Given as goal

abbrev pub invariant-loop-call : goal.invariant-loop-call
invariant-loop-call l = AreRowsOf (take l.call-index l.calls) l.rows.items
