use Rattle.m51_linker.specs.Memory.{IsHeldBelow}
use Rattle.m51_linker.specs.Runs.{AreRuns}
use Rattle.m51_linker.proofs.running.runs_of.Given as goal

abbrev pub invariant-loop-address : goal.invariant-loop-address
invariant-loop-address l = AreRuns (IsHeldBelow l.content l.address) l.runs.items
