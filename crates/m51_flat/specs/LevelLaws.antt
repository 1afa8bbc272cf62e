-- The levels in progress, and what holds interrupts off, after an instruction, from the family manual.
use Rattle.std.specs.Prelude.{◌≡◌, ℕ, ◌%◌, Bool, true, false, ◌&&◌, ◌||◌, ◌==◌, List}
use Rattle.m51_isa.specs.declared.instr.Flow.{Flow}
use Rattle.m51_isa.specs.declared.instr.Flow.TheVariants.{Reti as FlowReti}
use Rattle.m51_isa.specs.declared.instr.Instr.{Instr}
use Rattle.m51_isa.specs.declared.instr.Written.{Written}
use Rattle.m51_isa.specs.declared.instr.Written.TheVariants.{Nothing, Direct, Bit, BitIfSet}
use Rattle.m51_isa.specs.Changes.{written_of}
use Rattle.m51_isa.specs.Table.{flow_of}
use Rattle.m51_flat.specs.declared.state.Cpu.{Cpu}
use Rattle.m51_flat.specs.declared.state.Pins.{Pins}
use Rattle.m51_flat.specs.declared.state.Effect.{Effect}
use Rattle.m51_flat.specs.Sfr.{flag, ie, ip}
use Rattle.m51_flat.specs.Operands.{byte_of_bit}
use Rattle.m51_flat.specs.Meaning.{plan_of}
use Rattle.m51_flat.specs.Laws.{Always}

-- a register whose write holds interrupts off
abbrev pub holds_off : ℕ → Bool
holds_off a = a == ie || a == ip

-- what is written at the address of an operand is such a register, or a bit of one
abbrev pub is_written : (ℕ → Bool) → Cpu → Written → Bool
is_written such cpu Nothing = false
is_written such cpu (Direct a) = such a
is_written such cpu (Bit bit) = such (byte_of_bit bit)
is_written such cpu (BitIfSet bit) = such (byte_of_bit bit) && flag cpu (byte_of_bit bit) (bit % 8)

-- an instruction writes IE, IP or a bit of them
abbrev pub writes_ie_or_ip : Cpu → Instr → Bool
writes_ie_or_ip cpu instr = is_written holds_off cpu (written_of instr)

-- both levels are as before, and interrupts are held off exactly if IE or IP was written
pub record KeepsLevels (writes : Bool) (old : Cpu) (e : Effect) : Type 0 where
  pub low : e.cpu.low ≡ old.low
  pub high : e.cpu.high ≡ old.high
  pub held : e.cpu.held ≡ writes

-- the higher level ends, and interrupts are held off
pub record EndsLevel (old : Cpu) (e : Effect) : Type 0 where
  pub low : e.cpu.low ≡ old.high && old.low
  pub high : e.cpu.high ≡ false
  pub held : e.cpu.held ≡ true

-- RETI ends the higher level, and every other instruction keeps both
abbrev pub LevelsFollow : Flow → Bool → Cpu → Effect → Type 0
LevelsFollow FlowReti writes old e = EndsLevel old e
LevelsFollow _ writes old e = KeepsLevels writes old e

-- whatever is read
abbrev pub LevelsAreKept : Type 0
LevelsAreKept =
    (cpu : Cpu) (instr : Instr) (image : List ℕ) (ext : Pins)
    → Always (λ e. LevelsFollow (flow_of instr) (writes_ie_or_ip cpu instr) cpu e) (plan_of cpu instr image ext)
