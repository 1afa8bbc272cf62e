-- What holds of every instruction: its parity, its flow, and that a store and a map that agree give the same.
use Rattle.std.specs.Prelude.{◌≡◌, ℕ, ◌+◌, ◌/◌, ◌%◌, ◌⊎◌, List, length}
use Rattle.std.specs.Int.{bit_at}
use Rattle.m51_alu.specs.Arithmetic.{bit_of, parity_of}
use Rattle.m51_isa.specs.declared.instr.Flow.{Flow}
use Rattle.m51_isa.specs.declared.instr.Flow.TheVariants.{Next as FlowNext, Branch, Call as FlowCall, Ret as FlowRet}
use Rattle.m51_isa.specs.declared.instr.Flow.TheVariants.{Reti as FlowReti}
use Rattle.m51_isa.specs.declared.instr.Instr.{Instr}
use Rattle.m51_isa.specs.Table.{flow_of, length_of}
use Rattle.m51_flat.specs.declared.state.Cpu.{Cpu}
use Rattle.m51_flat.specs.declared.state.Pins.{Pins}
use Rattle.m51_flat.specs.declared.state.Put.TheVariants.{Byte}
use Rattle.m51_flat.specs.declared.state.Transfer.{Transfer}
use Rattle.m51_flat.specs.declared.state.Transfer.TheVariants.{Next, Jump, Call, Ret, Reti}
use Rattle.m51_flat.specs.declared.state.Effect.{Effect}
use Rattle.m51_flat.specs.Outcome.{Outcome, Done}
use Rattle.m51_flat.specs.States.{States}
use Rattle.m51_flat.specs.Reads.{Reads, Ends, Read, CellMap, Agrees, answer, accesses_over, result_over, first_missing}
use Rattle.m51_flat.specs.Reads.{up_to_missing}
use Rattle.m51_flat.specs.Sfr.{acc, psw, sp, latch}
use Rattle.m51_flat.specs.Meaning.{plan_of}

-- bit 0 of PSW is the parity of ACC
abbrev pub HasParity : Cpu → Type 0
HasParity cpu = bit_at (latch cpu psw) 0 ≡ bit_of (parity_of (latch cpu acc))

-- a fact of the effect, where there is one
abbrev pub IfDone : Outcome → (Effect → Type 0) → Type 0
IfDone (Done e) P = P e
IfDone _ P = Unit {0}

-- a fact of the effect, whatever is read
abbrev pub Always : (Effect → Type 0) → Reads Effect → Type 0
Always P (Ends e) = P e
Always P (Read x go) = (v : ℕ) → Always P (go v)

-- control continues with the next instruction
abbrev pub FallsThrough : ℕ → Effect → Type 0
FallsThrough next e = (e.transfer ≡ Next) × (e.cpu.pc ≡ next)

-- a call stores the address of the next instruction above the stack, low byte first, and raises SP by two
pub record IsCall (next top : ℕ) (e : Effect) : Type 0 where
  pub transfer : e.transfer ≡ Call
  pub low : e.first ≡ Byte ((top + 1) % 256) (next % 256)
  pub high : e.second ≡ Byte ((top + 2) % 256) (next / 256)
  pub stack : latch e.cpu sp ≡ (top + 2) % 256

-- a return lowers SP by two
pub record IsReturn (by : Transfer) (top : ℕ) (e : Effect) : Type 0 where
  pub transfer : e.transfer ≡ by
  pub stack : latch e.cpu sp ≡ (top + 254) % 256

-- how control continues after an instruction of each flow, with the address of the next instruction and SP before
abbrev pub Follows : Flow → ℕ → ℕ → Effect → Type 0
Follows FlowNext next top e = FallsThrough next e
Follows Branch next top e = FallsThrough next e ⊎ (e.transfer ≡ Jump)
Follows FlowCall next top e = IsCall next top e
Follows FlowRet next top e = IsReturn Ret top e
Follows FlowReti next top e = IsReturn Reti top e

-- the address of the next instruction
abbrev pub next_address : Cpu → Instr → ℕ
next_address cpu instr = (cpu.pc + length_of instr) % 65536

-- whatever is read, control continues by the flow of the instruction
abbrev pub FlowIsKept : Type 0
FlowIsKept =
    (cpu : Cpu) (instr : Instr) (image : List ℕ) (ext : Pins) → length cpu.regs ≡ 128
    → Always (λ e. Follows (flow_of instr) (next_address cpu instr) (latch cpu sp) e) (plan_of cpu instr image ext)

-- over a store, the answer of reads is their result over any map that agrees with it, or that of the first of them that
-- has no value
abbrev pub ReadingsAgree : Type 0
ReadingsAgree =
    (p : Reads Effect) (s : States) (m : CellMap)
    → Agrees s m → answer s p ≡ first_missing s (accesses_over m p) (result_over m p)

-- the reads up to the first that has no value are the same for all maps that agree with the store
abbrev pub AccessesAgree : Type 0
AccessesAgree =
    (p : Reads Effect) (s : States) (m m' : CellMap)
    → Agrees s m → Agrees s m' → up_to_missing s (accesses_over m p) ≡ up_to_missing s (accesses_over m' p)
