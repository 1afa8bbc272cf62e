use Rattle.m51_stackbound.proofs.Common.{AreListed}
use Rattle.m51_stackbound.proofs.listing.procs_of.Given as goal

abbrev pub invariant-loop-address : goal.invariant-loop-address
invariant-loop-address l = AreListed l.layout l.starts l.depths l.address l.procs.items
