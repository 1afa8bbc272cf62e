use Rattle.m51_module.proofs.Raised.{raised_valid}
use Rattle.m51_module.proofs.module.Module.raise.Goals as goal

pub invariant_of-result : goal.invariant_of-result
invariant_of-result c = rw c.raised_parts.ensures (raised_valid c.self.inside.parts c.self.invariant)
