-- What holds of registers that devices store to, of a call, and of an address that is stored on the stack.
use Rattle.std.specs.Prelude.{◌≡◌, ◌≢◌, ℕ, ◌+◌, ◌/◌, ◌%◌, ◌<◌, ◌≤◌, Bool, true, length, nat_eq, if◌then◌else◌}
use Rattle.m51_flat.specs.declared.state.Cpu.{Cpu}
use Rattle.m51_flat.specs.declared.state.Put.TheVariants.{Byte}
use Rattle.m51_flat.specs.declared.state.Effect.{Effect}
use Rattle.m51_flat.specs.Sfr.{acc, has_register, latch, psw, sp, with_flag, with_latch}
use Rattle.m51_flat.specs.Transfers.{called, stacked}
use Rattle.m51_flat.specs.Laws.{HasParity, IsCall}

-- a register that a device stores to holds the value, and every other one is as before
abbrev pub RegistersAreWritten : Type 0
RegistersAreWritten =
    (cpu : Cpu) (a b v : ℕ) → length cpu.regs ≡ 128 → has_register a ≡ true → 128 ≤ a → a < 256 → 128 ≤ b
    → latch (with_latch cpu a v) b ≡ (if nat_eq b a then v else latch cpu b)

-- the program counter, the levels in progress and what holds interrupts off are the same
pub record SameControl (old new : Cpu) : Type 0 where
  pub pc : new.pc ≡ old.pc
  pub low : new.low ≡ old.low
  pub high : new.high ≡ old.high
  pub held : new.held ≡ old.held

-- but for the register at an address, all is as before; so is the parity, where that is neither PSW nor ACC
pub record KeepsTheRest (a : ℕ) (old new : Cpu) : Type 0 where
  pub registers : length new.regs ≡ 128
  pub control : SameControl old new
  pub others : (b : ℕ) → 128 ≤ b → b ≢ a → latch new b ≡ latch old b
  pub parity : a ≢ psw → a ≢ acc → HasParity old → HasParity new

-- a device that stores a register keeps the rest
abbrev pub StoresKeepTheRest : Type 0
StoresKeepTheRest =
    (cpu : Cpu) (a v : ℕ) → length cpu.regs ≡ 128 → 128 ≤ a → KeepsTheRest a cpu (with_latch cpu a v)

-- and one that writes a bit of it
abbrev pub FlagsKeepTheRest : Type 0
FlagsKeepTheRest =
    (cpu : Cpu) (a k : ℕ) (b : Bool) → length cpu.regs ≡ 128 → 128 ≤ a → KeepsTheRest a cpu (with_flag cpu a k b)

-- PC is stored above the stack, low byte first, SP is two more, and all else that concerns control is as before
pub record IsStacked (old new : Effect) : Type 0 where
  pub registers : length new.cpu.regs ≡ 128
  pub control : SameControl old.cpu new.cpu
  pub low : new.first ≡ Byte ((latch old.cpu sp + 1) % 256) (old.cpu.pc % 256)
  pub high : new.second ≡ Byte ((latch old.cpu sp + 2) % 256) (old.cpu.pc / 256)
  pub stack : latch new.cpu sp ≡ (latch old.cpu sp + 2) % 256
  pub parity : HasParity old.cpu → HasParity new.cpu

abbrev pub PcIsStacked : Type 0
PcIsStacked = (e : Effect) → length e.cpu.regs ≡ 128 → IsStacked e (stacked e)

-- a call of an address, from any effect
pub record CallsFrom (e : Effect) (target : ℕ) : Type 0 where
  pub call : IsCall e.cpu.pc (latch e.cpu sp) (called e target)
  pub jumps : (called e target).cpu.pc ≡ target
  pub registers : length (called e target).cpu.regs ≡ 128
  pub parity : HasParity e.cpu → HasParity (called e target).cpu

abbrev pub CallsAreMade : Type 0
CallsAreMade = (e : Effect) (target : ℕ) → length e.cpu.regs ≡ 128 → CallsFrom e target
