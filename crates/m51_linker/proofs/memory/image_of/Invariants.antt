use Rattle.m51_linker.specs.Memory.{IsErasedBut}
use Rattle.m51_linker.proofs.memory.image_of.Given as goal

abbrev pub invariant-loop-address : goal.invariant-loop-address
invariant-loop-address l = IsErasedBut l.memory l.address l.image
