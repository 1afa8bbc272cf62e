use Rattle.m51_module.proofs.Held.{none_is_library}
use Rattle.m51_module.proofs.library.Library.empty.Goals as goal

pub invariant_of-result : goal.invariant_of-result
invariant_of-result c = rw c.new.ensures.items (record { library = none_is_library; named = c.unknown.ensures _ })
