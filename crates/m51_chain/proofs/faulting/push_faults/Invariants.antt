use Rattle.m51_chain.proofs.Common.{drop, ◌++◌, ◌≡◌}
use Rattle.m51_chain.specs.FaultLines.{fault_lines}
use Rattle.m51_chain.proofs.faulting.push_faults.Given as goal

abbrev pub invariant-loop-fault : goal.invariant-loop-fault
invariant-loop-fault l =
    l.text.items ++ fault_lines l.source l.files (drop l.fault-index l.faults) ≡ l.fn.text.items
    ++ fault_lines l.source l.files l.faults
