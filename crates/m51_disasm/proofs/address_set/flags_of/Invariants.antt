use Rattle.std.proofs.Common.{take}
use Rattle.m51_disasm.specs.Flags.{AreFlags}
use Rattle.m51_disasm.proofs.address_set.flags_of.Given as goal

abbrev pub invariant-loop-address : goal.invariant-loop-address
invariant-loop-address l = AreFlags (take l.address-index l.addresses) l.flags.items
