use Rattle.m51_monitor.proofs.Common.{arith, LayoutParts, AreActivations, Records, units_named}
use Rattle.m51_monitor.specs.Reached.{AreReachedRecords, AtReset, AfterMove}
use Rattle.m51_monitor.proofs.Framing.{few_records}
use Rattle.m51_monitor.proofs.Liveness.{one_live}
use Rattle.m51_monitor.proofs.Moving.{moves_are_kept}
use Rattle.m51_monitor.proofs.Standing.{all_related}
use Rattle.m51_monitor.proofs.laws.runs_are_bounded.Goals as goal

reached_are : (l : LayoutParts) (a : Records) → AreReachedRecords l a → AreActivations l a
reached_are l a (AtReset root h) = record { stand = record { over = h }; heights = tt; levels = omega arith }
reached_are l a (AfterMove m cpu e step same before fits level j) =
    rw same at (moves_are_kept m cpu e step fits level j (rw same (reached_are l m.records before)))

pub returns : goal.returns
returns c = λ l a sound reached.
    let are = reached_are l a reached in
    grind (arith, one_live l (units_named a) sound (all_related l a are.stand), few_records a.returns are.heights)
