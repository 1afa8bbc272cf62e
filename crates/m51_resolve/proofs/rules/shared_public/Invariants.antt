use Rattle.m51_resolve.proofs.Common.{◌≡◌, drop, take, shared_public}
use Rattle.m51_resolve.specs.Rules.{shared_after}
use Rattle.m51_resolve.proofs.rules.shared_public.Given as goal

abbrev pub invariant-loop-module : goal.invariant-loop-module
invariant-loop-module l = shared_after (take l.module-index l.modules) (drop l.module-index l.modules)
    ≡ shared_public l.modules
