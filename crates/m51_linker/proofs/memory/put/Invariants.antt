use Rattle.m51_linker.specs.Memory.{held_at, IsPut}
use Rattle.m51_linker.proofs.memory.put.Given as goal

abbrev pub invariant-loop-index : goal.invariant-loop-index
invariant-loop-index l = IsPut l.at l.bytes l.index (held_at l.initial.memory) (held_at l.memory)
