-- What an instruction changes: what it writes at an address that it names, what it does with the stack, and whether
-- control never continues with the next instruction.
use Rattle.std.specs.Prelude.{Bool, true, false}
use Rattle.m51_isa.specs.declared.instr.Instr.{Instr}
use Rattle.m51_isa.specs.declared.instr.Instr.TheVariants as row
use Rattle.m51_isa.specs.declared.instr.Stack.{Stack}
use Rattle.m51_isa.specs.declared.instr.Stack.TheVariants.{Keep, Push, Pop, Call, Return}
use Rattle.m51_isa.specs.declared.instr.Written.{Written}
use Rattle.m51_isa.specs.declared.instr.Written.TheVariants.{Nothing, Direct, Bit, BitIfSet}

-- what it writes at a direct address or a bit address that is an operand
abbrev pub written_of : Instr → Written
written_of (row.OrlDirectA direct) = Direct direct
written_of (row.AnlDirectA direct) = Direct direct
written_of (row.XrlDirectA direct) = Direct direct
written_of (row.OrlDirectData direct value) = Direct direct
written_of (row.AnlDirectData direct value) = Direct direct
written_of (row.XrlDirectData direct value) = Direct direct
written_of (row.IncDirect direct) = Direct direct
written_of (row.DecDirect direct) = Direct direct
written_of (row.MovDirectData direct value) = Direct direct
written_of (row.MovDirectDirect source target) = Direct target
written_of (row.MovDirectA direct) = Direct direct
written_of (row.MovDirectAtRi pointer direct) = Direct direct
written_of (row.MovDirectRn register direct) = Direct direct
written_of (row.PopDirect direct) = Direct direct
written_of (row.XchADirect direct) = Direct direct
written_of (row.DjnzDirectRel direct rel) = Direct direct
written_of (row.MovBitC bit) = Bit bit
written_of (row.CplBit bit) = Bit bit
written_of (row.ClrBit bit) = Bit bit
written_of (row.SetbBit bit) = Bit bit
written_of (row.JbcBitRel bit rel) = BitIfSet bit
written_of _ = Nothing

-- what it does with the stack
abbrev pub stack_of : Instr → Stack
stack_of (row.PushDirect direct) = Push
stack_of (row.PopDirect direct) = Pop
stack_of (row.AcallAddr11 address) = Call
stack_of (row.LcallAddr16 address) = Call
stack_of row.Ret = Return
stack_of row.Reti = Return
stack_of _ = Keep

-- a jump without a condition: control never continues with the next instruction
abbrev pub is_jump : Instr → Bool
is_jump (row.SjmpRel rel) = true
is_jump (row.AjmpAddr11 address) = true
is_jump (row.LjmpAddr16 address) = true
is_jump row.JmpAtADptr = true
is_jump _ = false
