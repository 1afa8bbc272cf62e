use Rattle.m51_stackbound.proofs.Common.{arith}
use Rattle.m51_stackbound.proofs.Procs.{starts_none}
use Rattle.m51_stackbound.proofs.listing.starts_of.Goals as goal

pub note_starts-requires : goal.note_starts-requires
note_starts-requires c = rw c.deref_mut.ensures.value (starts_none 65536 _ (omega arith) c.in_ok-starts.ensures)
