use Rattle.m51_chain.proofs.Common.{drop, ◌++◌, ◌≡◌}
use Rattle.m51_chain.specs.InputRefusals.{faults_text}
use Rattle.m51_chain.proofs.input_refusing.faults_text.Given as goal

abbrev pub invariant-loop-faulty : goal.invariant-loop-faulty
invariant-loop-faulty l = l.text.items ++ faults_text l.files (drop l.faulty-index l.all) ≡ faults_text l.files l.all
