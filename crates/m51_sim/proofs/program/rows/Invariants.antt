use Rattle.m51_sim.specs.Rows.{AreDecodedRows}
use Rattle.m51_sim.proofs.program.rows.Given as goal

abbrev pub invariant-loop-at : goal.invariant-loop-at
invariant-loop-at l = AreDecodedRows l.image l.rows.items l.at
