use Rattle.m51_module.specs.Kept.{AreEmptyRows}
use Rattle.m51_stackbound.proofs.calls.no_rows.Given as goal

abbrev pub invariant-loop : goal.invariant-loop
invariant-loop l = AreEmptyRows l.counter l.rows.items
