use Rattle.m51_resolve.proofs.Lookups.{AreFlat}
use Rattle.m51_resolve.proofs.flat.all_externals.Given as goal

abbrev pub invariant-loop-module : goal.invariant-loop-module
invariant-loop-module l = AreFlat (λ m. m.externals) l.modules l.module-index l.items.items l.starts.items
