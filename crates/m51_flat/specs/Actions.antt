-- The column of meanings: what each instruction does, from the family manual.
use Rattle.m51_isa.specs.declared.instr.Instr.{Instr}
use Rattle.m51_isa.specs.declared.instr.Instr.TheVariants as instr
use Rattle.m51_flat.specs.declared.actions.Addition.TheVariants.{Add, AddCarry, Subtract}
use Rattle.m51_flat.specs.declared.actions.Logic.TheVariants.{Or, And, Xor}
use Rattle.m51_flat.specs.declared.actions.Count.TheVariants.{Increment, Decrement}
use Rattle.m51_flat.specs.declared.actions.Turning.TheVariants.{RotateRight, RotateRightCarry, RotateLeft}
use Rattle.m51_flat.specs.declared.actions.Turning.TheVariants.{RotateLeftCarry, SwapDigits, Complement, Adjust}
use Rattle.m51_flat.specs.declared.actions.ExternalAt.TheVariants.{ByDptr, ByRegister}
use Rattle.m51_flat.specs.declared.actions.CodeBase.TheVariants.{FromDptr, FromNext}
use Rattle.m51_flat.specs.declared.actions.CarryChange.TheVariants.{CarryClear, CarrySet, CarryFlip}
use Rattle.m51_flat.specs.declared.actions.CarryMerge.TheVariants.{CarryLoad, CarryAnd, CarryAndNot, CarryOr}
use Rattle.m51_flat.specs.declared.actions.CarryMerge.TheVariants.{CarryOrNot}
use Rattle.m51_flat.specs.declared.actions.BitSource.TheVariants.{One, Zero, FromCarry}
use Rattle.m51_flat.specs.declared.actions.Condition.TheVariants.{IfCarry, IfNoCarry, IfZero, IfNotZero}
use Rattle.m51_flat.specs.declared.actions.BitTest.TheVariants.{IfSet, IfClear}
use Rattle.m51_flat.specs.declared.actions.ReturnFrom.TheVariants.{Subroutine, Interrupt}
use Rattle.m51_flat.specs.declared.actions.Addressing.TheVariants.{Accumulator, Direct, Indirect, Bank}
use Rattle.m51_flat.specs.declared.actions.ByteOperand.TheVariants.{Immediate, At}
use Rattle.m51_flat.specs.declared.actions.Action.{Action}
use Rattle.m51_flat.specs.declared.actions.Action.TheVariants.{Skip, Assign, Accumulate, Combine, Change, Turn}
use Rattle.m51_flat.specs.declared.actions.Action.TheVariants.{Multiply, Divide, Exchange, ExchangeDigit, LoadDptr}
use Rattle.m51_flat.specs.declared.actions.Action.TheVariants.{AdvanceDptr, LoadExternal, StoreExternal, LoadCode, Push}
use Rattle.m51_flat.specs.declared.actions.Action.TheVariants.{Pop, ChangeCarry, CarryWith, StoreBit, FlipBit, JumpTo}
use Rattle.m51_flat.specs.declared.actions.Action.TheVariants.{JumpNear, JumpBy, JumpIndirect, BranchOn, BranchOnBit}
use Rattle.m51_flat.specs.declared.actions.Action.TheVariants.{TestAndClear, Compare, CountDown, CallTo, CallNear}
use Rattle.m51_flat.specs.declared.actions.Action.TheVariants.{Return}

-- the action of an instruction
abbrev pub action_of : Instr → Action
action_of instr.Nop = Skip
action_of (instr.JbcBitRel bit rel) = TestAndClear bit rel
action_of (instr.JbBitRel bit rel) = BranchOnBit IfSet bit rel
action_of (instr.JnbBitRel bit rel) = BranchOnBit IfClear bit rel
action_of (instr.JcRel rel) = BranchOn IfCarry rel
action_of (instr.JncRel rel) = BranchOn IfNoCarry rel
action_of (instr.JzRel rel) = BranchOn IfZero rel
action_of (instr.JnzRel rel) = BranchOn IfNotZero rel
action_of (instr.SjmpRel rel) = JumpBy rel
action_of (instr.MovDptrData16 word) = LoadDptr word
action_of (instr.OrlCNotBit bit) = CarryWith CarryOrNot bit
action_of (instr.AnlCNotBit bit) = CarryWith CarryAndNot bit
action_of (instr.PushDirect direct) = Push (Direct direct)
action_of (instr.PopDirect direct) = Pop (Direct direct)
action_of instr.MovxAAtDptr = LoadExternal ByDptr
action_of instr.MovxAtDptrA = StoreExternal ByDptr
action_of (instr.AjmpAddr11 address) = JumpNear address
action_of (instr.AcallAddr11 address) = CallNear address
action_of (instr.LjmpAddr16 address) = JumpTo address
action_of (instr.LcallAddr16 address) = CallTo address
action_of instr.Ret = Return Subroutine
action_of instr.Reti = Return Interrupt
action_of (instr.OrlDirectA direct) = Combine Or (Direct direct) (At Accumulator)
action_of (instr.AnlDirectA direct) = Combine And (Direct direct) (At Accumulator)
action_of (instr.XrlDirectA direct) = Combine Xor (Direct direct) (At Accumulator)
action_of (instr.OrlCBit bit) = CarryWith CarryOr bit
action_of (instr.AnlCBit bit) = CarryWith CarryAnd bit
action_of (instr.MovBitC bit) = StoreBit FromCarry bit
action_of (instr.MovCBit bit) = CarryWith CarryLoad bit
action_of (instr.CplBit bit) = FlipBit bit
action_of (instr.ClrBit bit) = StoreBit Zero bit
action_of (instr.SetbBit bit) = StoreBit One bit
action_of (instr.MovxAAtRi pointer) = LoadExternal (ByRegister pointer)
action_of (instr.MovxAtRiA pointer) = StoreExternal (ByRegister pointer)
action_of instr.RrA = Turn RotateRight
action_of instr.RrcA = Turn RotateRightCarry
action_of instr.RlA = Turn RotateLeft
action_of instr.RlcA = Turn RotateLeftCarry
action_of (instr.OrlDirectData direct value) = Combine Or (Direct direct) (Immediate value)
action_of (instr.AnlDirectData direct value) = Combine And (Direct direct) (Immediate value)
action_of (instr.XrlDirectData direct value) = Combine Xor (Direct direct) (Immediate value)
action_of instr.JmpAtADptr = JumpIndirect
action_of instr.MovcAAtAPc = LoadCode FromNext
action_of instr.MovcAAtADptr = LoadCode FromDptr
action_of instr.IncDptr = AdvanceDptr
action_of instr.CplC = ChangeCarry CarryFlip
action_of instr.ClrC = ChangeCarry CarryClear
action_of instr.SetbC = ChangeCarry CarrySet
action_of instr.IncA = Change Increment Accumulator
action_of instr.DecA = Change Decrement Accumulator
action_of (instr.AddAData value) = Accumulate Add (Immediate value)
action_of (instr.AddcAData value) = Accumulate AddCarry (Immediate value)
action_of (instr.OrlAData value) = Combine Or Accumulator (Immediate value)
action_of (instr.AnlAData value) = Combine And Accumulator (Immediate value)
action_of (instr.XrlAData value) = Combine Xor Accumulator (Immediate value)
action_of (instr.MovAData value) = Assign Accumulator (Immediate value)
action_of instr.DivAb = Divide
action_of (instr.SubbAData value) = Accumulate Subtract (Immediate value)
action_of instr.MulAb = Multiply
action_of (instr.CjneADataRel value rel) = Compare (At Accumulator) (Immediate value) rel
action_of instr.SwapA = Turn SwapDigits
action_of instr.DaA = Turn Adjust
action_of instr.ClrA = Assign Accumulator (Immediate 0)
action_of instr.CplA = Turn Complement
action_of (instr.IncDirect direct) = Change Increment (Direct direct)
action_of (instr.DecDirect direct) = Change Decrement (Direct direct)
action_of (instr.AddADirect direct) = Accumulate Add (At (Direct direct))
action_of (instr.AddcADirect direct) = Accumulate AddCarry (At (Direct direct))
action_of (instr.OrlADirect direct) = Combine Or Accumulator (At (Direct direct))
action_of (instr.AnlADirect direct) = Combine And Accumulator (At (Direct direct))
action_of (instr.XrlADirect direct) = Combine Xor Accumulator (At (Direct direct))
action_of (instr.MovDirectData direct value) = Assign (Direct direct) (Immediate value)
action_of (instr.MovDirectDirect source target) = Assign (Direct target) (At (Direct source))
action_of (instr.SubbADirect direct) = Accumulate Subtract (At (Direct direct))
action_of (instr.CjneADirectRel direct rel) = Compare (At Accumulator) (At (Direct direct)) rel
action_of (instr.XchADirect direct) = Exchange (Direct direct)
action_of (instr.DjnzDirectRel direct rel) = CountDown (Direct direct) rel
action_of (instr.MovADirect direct) = Assign Accumulator (At (Direct direct))
action_of (instr.MovDirectA direct) = Assign (Direct direct) (At Accumulator)
action_of (instr.IncAtRi pointer) = Change Increment (Indirect pointer)
action_of (instr.DecAtRi pointer) = Change Decrement (Indirect pointer)
action_of (instr.AddAAtRi pointer) = Accumulate Add (At (Indirect pointer))
action_of (instr.AddcAAtRi pointer) = Accumulate AddCarry (At (Indirect pointer))
action_of (instr.OrlAAtRi pointer) = Combine Or Accumulator (At (Indirect pointer))
action_of (instr.AnlAAtRi pointer) = Combine And Accumulator (At (Indirect pointer))
action_of (instr.XrlAAtRi pointer) = Combine Xor Accumulator (At (Indirect pointer))
action_of (instr.MovAtRiData pointer value) = Assign (Indirect pointer) (Immediate value)
action_of (instr.MovDirectAtRi pointer direct) = Assign (Direct direct) (At (Indirect pointer))
action_of (instr.SubbAAtRi pointer) = Accumulate Subtract (At (Indirect pointer))
action_of (instr.MovAtRiDirect pointer direct) = Assign (Indirect pointer) (At (Direct direct))
action_of (instr.CjneAtRiDataRel pointer value rel) = Compare (At (Indirect pointer)) (Immediate value) rel
action_of (instr.XchAAtRi pointer) = Exchange (Indirect pointer)
action_of (instr.XchdAAtRi pointer) = ExchangeDigit (Indirect pointer)
action_of (instr.MovAAtRi pointer) = Assign Accumulator (At (Indirect pointer))
action_of (instr.MovAtRiA pointer) = Assign (Indirect pointer) (At Accumulator)
action_of (instr.IncRn register) = Change Increment (Bank register)
action_of (instr.DecRn register) = Change Decrement (Bank register)
action_of (instr.AddARn register) = Accumulate Add (At (Bank register))
action_of (instr.AddcARn register) = Accumulate AddCarry (At (Bank register))
action_of (instr.OrlARn register) = Combine Or Accumulator (At (Bank register))
action_of (instr.AnlARn register) = Combine And Accumulator (At (Bank register))
action_of (instr.XrlARn register) = Combine Xor Accumulator (At (Bank register))
action_of (instr.MovRnData register value) = Assign (Bank register) (Immediate value)
action_of (instr.MovDirectRn register direct) = Assign (Direct direct) (At (Bank register))
action_of (instr.SubbARn register) = Accumulate Subtract (At (Bank register))
action_of (instr.MovRnDirect register direct) = Assign (Bank register) (At (Direct direct))
action_of (instr.CjneRnDataRel register value rel) = Compare (At (Bank register)) (Immediate value) rel
action_of (instr.XchARn register) = Exchange (Bank register)
action_of (instr.DjnzRnRel register rel) = CountDown (Bank register) rel
action_of (instr.MovARn register) = Assign Accumulator (At (Bank register))
action_of (instr.MovRnA register) = Assign (Bank register) (At Accumulator)
