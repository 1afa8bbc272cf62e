use Rattle.m51_chain.proofs.Common.{drop, ◌+◌, ◌≡◌}
use Rattle.m51_chain.specs.Programs.{filled_by}
use Rattle.m51_chain.proofs.reporting.filled.Given as goal

abbrev pub invariant-loop-run : goal.invariant-loop-run
invariant-loop-run l = l.bytes + filled_by (drop l.run-index l.runs) ≡ filled_by l.runs
