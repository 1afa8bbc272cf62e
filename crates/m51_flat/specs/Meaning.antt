-- What each instruction means: its reads in order, its effect, and its outcome over a store and over a map.
use Rattle.std.specs.Prelude.{ℕ, ◌+◌, ◌%◌, Bool, true, false, if◌then◌else◌, Option, Some, None, Result, Ok, Err, List}
use Rattle.m51_alu.specs.Arithmetic.{product_of, quotient_of}
use Rattle.m51_isa.specs.declared.instr.Instr.{Instr}
use Rattle.m51_isa.specs.Table.{cycles_of, length_of}
use Rattle.m51_cells.specs.declared.cell.Cell.{Cell}
use Rattle.m51_flat.specs.declared.state.Cpu.{Cpu}
use Rattle.m51_flat.specs.declared.state.Pins.{Pins}
use Rattle.m51_flat.specs.declared.state.Put.TheVariants.{Nothing}
use Rattle.m51_flat.specs.declared.state.Transfer.TheVariants.{Next, Jump}
use Rattle.m51_flat.specs.declared.state.Effect.{Effect}
use Rattle.m51_flat.specs.declared.state.NoEffect.{NoEffect}
use Rattle.m51_flat.specs.Outcome.{Outcome, Done, Outside, PowerDown, lacking}
use Rattle.m51_flat.specs.declared.actions.Action.{Action}
use Rattle.m51_flat.specs.declared.actions.Action.TheVariants.{Skip, Assign, Accumulate, Combine, Change, Turn}
use Rattle.m51_flat.specs.declared.actions.Action.TheVariants.{Multiply, Divide, Exchange, ExchangeDigit, LoadDptr}
use Rattle.m51_flat.specs.declared.actions.Action.TheVariants.{AdvanceDptr, LoadExternal, StoreExternal, LoadCode, Push}
use Rattle.m51_flat.specs.declared.actions.Action.TheVariants.{Pop, ChangeCarry, CarryWith, StoreBit, FlipBit, JumpTo}
use Rattle.m51_flat.specs.declared.actions.Action.TheVariants.{JumpNear, JumpBy, JumpIndirect, BranchOn, BranchOnBit}
use Rattle.m51_flat.specs.declared.actions.Action.TheVariants.{TestAndClear, Compare, CountDown, CallTo, CallNear}
use Rattle.m51_flat.specs.declared.actions.Action.TheVariants.{Return}
use Rattle.m51_flat.specs.Actions.{action_of}
use Rattle.m51_flat.specs.States.{States, shut_of}
use Rattle.m51_flat.specs.Reads.{Reads, Ends, CellMap, answer, accesses_over, result_over, first_missing}
use Rattle.m51_flat.specs.Sfr.{acc, breg, pcon, flag, latch}
use Rattle.m51_flat.specs.Operands.{with_bit_at}
use Rattle.m51_isa.specs.Targets.{near}
use Rattle.m51_flat.specs.Parts.{branched, carry, dptr_of, jumped, with_carry, with_dptr, with_pair}
use Rattle.m51_flat.specs.Arithmetic.{assigned, changed, combined, digits_exchanged, exchanged, summed, with_turn}
use Rattle.m51_flat.specs.Moves.{code_loaded, external_loaded, external_stored, popped, pushed}
use Rattle.m51_flat.specs.Bits.{bit_flipped, bit_from, branched_on_bit, carry_merged, changed_carry, tested_and_cleared}
use Rattle.m51_flat.specs.Transfers.{called, compared, counted_down, is_met, returned}

-- what an action does, from the effect of an instruction that only continues with the next
abbrev pub plan : List ℕ → Pins → Effect → Action → Reads Effect
plan image ext e Skip = Ends e
plan image ext e (Assign addressing from) = assigned ext e addressing from
plan image ext e (Accumulate op from) = summed ext e op from
plan image ext e (Combine op addressing from) = combined ext e op addressing from
plan image ext e (Change count addressing) = changed e count addressing
plan image ext e (Turn by) = Ends (with_turn by e)
plan image ext e Multiply = Ends (with_pair (product_of (latch e.cpu acc) (latch e.cpu breg)) e)
plan image ext e Divide = Ends (with_pair (quotient_of (latch e.cpu acc) (latch e.cpu breg)) e)
plan image ext e (Exchange addressing) = exchanged ext e addressing
plan image ext e (ExchangeDigit addressing) = digits_exchanged ext e addressing
plan image ext e (LoadDptr word) = Ends (with_dptr word e)
plan image ext e AdvanceDptr = Ends (with_dptr ((dptr_of e.cpu + 1) % 65536) e)
plan image ext e (LoadExternal from) = external_loaded e from
plan image ext e (StoreExternal to) = external_stored e to
plan image ext e (LoadCode base) = Ends (code_loaded image e base)
plan image ext e (Push addressing) = pushed ext e addressing
plan image ext e (Pop addressing) = popped e addressing
plan image ext e (ChangeCarry by) = Ends (with_carry (changed_carry by (carry e.cpu)) e)
plan image ext e (CarryWith by bit) = carry_merged ext e by bit
plan image ext e (StoreBit from bit) = Ends (with_bit_at bit (bit_from from e.cpu) e)
plan image ext e (FlipBit bit) = bit_flipped e bit
plan image ext e (JumpTo target) = Ends (jumped target Jump e)
plan image ext e (JumpNear address) = Ends (jumped (near e.cpu.pc address) Jump e)
plan image ext e (JumpBy rel) = Ends (branched true rel e)
plan image ext e JumpIndirect = Ends (jumped ((dptr_of e.cpu + latch e.cpu acc) % 65536) Jump e)
plan image ext e (BranchOn condition rel) = Ends (branched (is_met condition e.cpu) rel e)
plan image ext e (BranchOnBit test bit rel) = branched_on_bit ext e test bit rel
plan image ext e (TestAndClear bit rel) = tested_and_cleared e bit rel
plan image ext e (Compare first second rel) = compared ext e first second rel
plan image ext e (CountDown addressing rel) = counted_down e addressing rel
plan image ext e (CallTo target) = Ends (called e target)
plan image ext e (CallNear address) = Ends (called e (near e.cpu.pc address))
plan image ext e (Return from) = returned e from

-- the effect of a step of `cycles` machine cycles that changes nothing, and after which interrupts are not held off
abbrev pub still : Cpu → ℕ → Effect
still cpu cycles = record {
  cpu = record cpu { held = false };
  first = Nothing;
  second = Nothing;
  transfer = Next;
  port = None;
  sbuf = None;
  cycles = cycles;
}

-- the effect of an instruction that only continues with the next
abbrev pub started : Cpu → Instr → Effect
started cpu instr = record {
  cpu = record cpu { pc = (cpu.pc + length_of instr) % 65536; held = false };
  first = Nothing;
  second = Nothing;
  transfer = Next;
  port = None;
  sbuf = None;
  cycles = cycles_of instr;
}

-- the reads of an instruction in order, and its effect
abbrev pub plan_of : Cpu → Instr → List ℕ → Pins → Reads Effect
plan_of cpu instr image ext = plan image ext (started cpu instr) (action_of instr)

-- the first cell that a put may not write, or else this outcome
abbrev pub unless_shut : Option Cell → Outcome → Outcome
unless_shut None outcome = outcome
unless_shut (Some c) outcome = Outside c

-- the lowest cell that may not be written of the first put, then of the second, or else this outcome
abbrev pub unless_barred : (Cell → Bool) → Effect → Outcome → Outcome
unless_barred barred e outcome = unless_shut (shut_of barred e.first) (unless_shut (shut_of barred e.second) outcome)

-- an effect whose puts may be written and that does not power down
abbrev pub allowed : (Cell → Bool) → Effect → Outcome
allowed barred e = unless_barred barred e (if flag e.cpu pcon 1 then PowerDown else Done e)

-- the first read that has no value, or else the effect where it is allowed
abbrev pub concluded : (Cell → Bool) → Result Effect NoEffect → Outcome
concluded barred (Ok e) = allowed barred e
concluded barred (Err why) = lacking why

-- over a store with these cells, of which some are barred
unfoldable pub instruction_outcome : Cpu → States → (Cell → Bool) → Instr → List ℕ → Pins → Outcome
instruction_outcome cpu cells barred instr image ext = concluded barred (answer cells (plan_of cpu instr image ext))

-- over a map: the first of its reads that the store does not answer, or else its effect where it is allowed
unfoldable pub outcome_over : CellMap → Cpu → States → (Cell → Bool) → Instr → List ℕ → Pins → Outcome
outcome_over m cpu cells barred instr image ext =
    let reads = plan_of cpu instr image ext in
    concluded barred (first_missing cells (accesses_over m reads) (result_over m reads))
