-- The flat machine: one map from all cells to values. It stops at the reserved opcode and at power-down only.
use Rattle.std.specs.Prelude.{ℕ, ◌%◌, nat_lt, if◌then◌else◌, List, Option, Some, None, Result, Ok, Err}
use Rattle.std.specs.Int.{bit_at}
use Rattle.m51_cells.specs.declared.cell.Space.{Space}
use Rattle.m51_cells.specs.declared.cell.Space.TheVariants.{Ram, Xram, Code}
use Rattle.m51_cells.specs.declared.event.Event.{Event}
use Rattle.m51_cells.specs.declared.event.Event.TheVariants.{Reserved, PowerDown}
use Rattle.m51_isa.specs.declared.instr.Instr.{Instr}
use Rattle.m51_flat.specs.declared.state.Cpu.{Cpu}
use Rattle.m51_flat.specs.declared.state.Pins.{Pins}
use Rattle.m51_flat.specs.declared.state.Put.{Put}
use Rattle.m51_flat.specs.declared.state.Effect.{Effect}
use Rattle.m51_flat.specs.Reads.{CellMap, result_over}
use Rattle.m51_flat.specs.Flags.{pd}
use Rattle.m51_flat.specs.Sfr.{flag, pcon}
use Rattle.m51_flat.specs.States.{ram_written, xram_written}
use Rattle.m51_flat.specs.Meaning.{plan_of}
use Rattle.m51_flat.specs.Reset.{reset_cpu}
use Rattle.m51_irq.specs.Vectoring.{vectoring}
use Rattle.m51_timers_uart.specs.Tick.{reset_periph}
use Rattle.m51_sim.specs.declared.attempt.Attempt.{Attempt}
use Rattle.m51_sim.specs.declared.attempt.Attempt.TheVariants.{Vectoring, Idling, Executing, Refusing}
use Rattle.m51_sim.specs.Cycles.{Inputs}
use Rattle.m51_sim.specs.Runs.{State, Performed, Machine}
use Rattle.m51_sim.specs.Effects.{attempt_of, idle_effect, performed}

-- a value after a put
abbrev pub replaced : Option ℕ → ℕ → ℕ
replaced None old = old
replaced (Some value) old = value

-- a map after a put
abbrev pub map_after : Put → CellMap → CellMap
map_after put m = record {
  ram = λ n. replaced (ram_written put n) (m.ram n);
  xram = λ n. replaced (xram_written put n) (m.xram n);
}

-- an effect is not performed where it would set bit 1 of PCON
abbrev pub unless_powers_down : Cpu → Effect → Result Effect Event
unless_powers_down cpu e = if flag e.cpu pcon pd then Err (PowerDown cpu.pc) else Ok e

-- an instruction over a map
unfoldable pub instr_effect : List ℕ → Cpu → CellMap → Pins → Instr → Result Effect Event
instr_effect image cpu m pins instr = unless_powers_down cpu (result_over m (plan_of cpu instr image pins))

-- the result of a function, from its answer and the effect that it leaves in a variable of its caller
abbrev pub left_in : {A : Type 0} → Result A Event → Effect → Result Effect Event
left_in (Ok a) e = Ok e
left_in (Err event) e = Err event

-- the result of a step, with these levels of the pins
unfoldable pub flat_effect : List ℕ → Cpu → CellMap → Pins → Attempt → Result Effect Event
flat_effect image cpu m pins (Vectoring source) = Ok (vectoring cpu source)
flat_effect image cpu m pins Idling = Ok (idle_effect cpu)
flat_effect image cpu m pins (Executing instr) = instr_effect image cpu m pins instr
flat_effect image cpu m pins Refusing = Err (Reserved cpu.pc)

-- an effect is performed, its first put before the second; an event changes nothing
abbrev pub flat_performs : Inputs → State CellMap → Result Effect Event → Result (Performed CellMap) Event
flat_performs inputs s (Ok e) = Ok (performed inputs s e (map_after e.second (map_after e.first s.memory)))
flat_performs inputs s (Err event) = Err event

-- the flat machine that holds an image
abbrev pub flat_machine : List ℕ → Inputs → Machine CellMap
flat_machine image inputs s =
    flat_performs inputs s (flat_effect image s.cpu s.memory (inputs.pins s.cycle) (attempt_of image s.cpu))

-- the fill: of a bit the one at its index in its byte; there is none past the end of a memory, nor in program memory
abbrev pub filled_at : ℕ → Space → ℕ → ℕ
filled_at fill Ram at = if nat_lt at 2048 then bit_at fill (at % 8) else 0
filled_at fill Xram at = if nat_lt at 65536 then fill else 0
filled_at fill Code at = 0

-- the map that has the fill everywhere
abbrev pub filled_map : ℕ → CellMap
filled_map fill = record { ram = λ n. filled_at fill Ram n; xram = λ n. filled_at fill Xram n }

-- a machine after a reset, with this memory
abbrev pub reset_with : {M : Type 0} → Inputs → M → State M
reset_with inputs memory =
    record { cpu = reset_cpu; periph = reset_periph (inputs.pins 0); cycle = 0; memory = memory }
