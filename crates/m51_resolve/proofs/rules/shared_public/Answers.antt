use Rattle.m51_resolve.proofs.Common.{arith}
use Rattle.m51_resolve.proofs.Tables.{shared_step}
use Rattle.m51_resolve.proofs.rules.shared_public.Goals as goal

pub returns-in-Some : goal.returns-in-Some
returns-in-Some c = rw (
  ← c.loop-module.invariant,
  shared_step c.loop-module.module-index c.requires (omega arith) c.module-item.is c.publics.ensures.list,
  ← c.in-Some.ensures,
)

pub loop-module-preserved : goal.loop-module-preserved
loop-module-preserved c = rw (
  ← c.loop-module.invariant,
  shared_step c.loop-module.module-index c.requires (omega arith) c.module-item.is c.publics.ensures.list,
  ← c.in_default.ensures,
)
