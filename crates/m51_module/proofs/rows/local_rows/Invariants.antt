use Rattle.m51_module.specs.Kept.{AreLocalRows}
use Rattle.m51_module.proofs.rows.local_rows.Given as goal

abbrev pub invariant-loop-segment : goal.invariant-loop-segment
invariant-loop-segment l = AreLocalRows l.rows l.count l.segment l.locals.items
