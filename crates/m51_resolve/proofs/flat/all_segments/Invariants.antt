use Rattle.m51_resolve.proofs.Lookups.{AreSegmentsOf}
use Rattle.m51_resolve.proofs.flat.all_segments.Given as goal

abbrev pub invariant-loop-module : goal.invariant-loop-module
invariant-loop-module l = AreSegmentsOf l.modules l.module-index l.items.items l.starts.items
