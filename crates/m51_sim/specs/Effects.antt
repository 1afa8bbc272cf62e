-- What a step is, and what one that is performed changes, over any memory.
use Rattle.std.specs.Prelude.{ℕ, ◌+◌, ◌%◌, ◌==◌, false, if◌then◌else◌, List, Option, Some, None, slice_index}
use Rattle.std.specs.Option.{option_map}
use Rattle.m51_cells.specs.declared.event.Entry.{Entry}
use Rattle.m51_cells.specs.declared.event.Entry.TheVariants.{Port}
use Rattle.m51_isa.specs.declared.instr.Instr.{Instr}
use Rattle.m51_isa.specs.Table.{decoded_at}
use Rattle.m51_flat.specs.declared.state.Cpu.{Cpu}
use Rattle.m51_flat.specs.declared.state.Put.TheVariants.{Nothing}
use Rattle.m51_flat.specs.declared.state.Source.{Source}
use Rattle.m51_flat.specs.declared.state.Transfer.TheVariants.{Next}
use Rattle.m51_flat.specs.declared.state.Effect.{Effect}
use Rattle.m51_flat.specs.Flags.{idl}
use Rattle.m51_flat.specs.Sfr.{flag, latch, p0, p1, p2, p3, pcon}
use Rattle.m51_irq.specs.Choice.{chosen}
use Rattle.m51_timers_uart.specs.declared.periph.Periph.{Periph}
use Rattle.m51_timers_uart.specs.LineLaws.{written_to}
use Rattle.m51_sim.specs.declared.attempt.Attempt.{Attempt}
use Rattle.m51_sim.specs.declared.attempt.Attempt.TheVariants.{Vectoring, Idling, Executing, Refusing}
use Rattle.m51_sim.specs.declared.cycles.Passing.{Passing}
use Rattle.m51_sim.specs.Cycles.{Inputs, cycles_passed}
use Rattle.m51_sim.specs.Runs.{State, Performed}

-- the instruction that begins at an address; the addresses of its bytes continue from 0 past the last one
unfoldable pub instr_at : List ℕ → ℕ → Option Instr
instr_at image at =
    decoded_at (slice_index image at) (slice_index image ((at + 1) % 65536)) (slice_index image ((at + 2) % 65536))

-- an instruction, or the reserved opcode
abbrev pub executing : Option Instr → Attempt
executing None = Refusing
executing (Some instr) = Executing instr

abbrev pub attempt_by : List ℕ → Cpu → Option Source → Attempt
attempt_by image cpu (Some source) = Vectoring source
attempt_by image cpu None = if flag cpu pcon idl then Idling else executing (instr_at image cpu.pc)

-- What a step is: the vectoring of the interrupt that is to be taken, else an idle cycle where bit 0 of PCON asks for
-- it, else one instruction.
unfoldable pub attempt_of : List ℕ → Cpu → Attempt
attempt_of image cpu = attempt_by image cpu (chosen cpu)

-- a machine cycle without an instruction
abbrev pub idle_effect : Cpu → Effect
idle_effect cpu = record {
  cpu = record cpu { held = false };
  first = Nothing;
  second = Nothing;
  transfer = Next;
  port = None;
  sbuf = None;
  cycles = 1;
}

-- the address of the latch of a port
abbrev pub latch_address : ℕ → ℕ
latch_address port = if port == 0 then p0 else (if port == 1 then p1 else (if port == 2 then p2 else p3))

-- where the latch of a port was written: the cycle in which the step started, and the new latch
abbrev pub port_entry : ℕ → Effect → Option Entry
port_entry cycle e = option_map (λ port. Port cycle port (latch e.cpu (latch_address port))) e.port

-- what an effect changes before the first cycle of its step passes; a byte written to SBUF begins to be sent
abbrev pub changed_by : ℕ → Periph → Effect → Passing
changed_by cycle periph e =
    record { cpu = e.cpu; periph = written_to e.cpu e.sbuf periph; cycle = cycle; sent = None }

-- the state and the entries after the cycles of a step, with this memory
abbrev pub passed_into : {M : Type 0} → M → Option Entry → Passing → Performed M
passed_into memory port p = record {
  state = record { cpu = p.cpu; periph = p.periph; cycle = p.cycle; memory = memory };
  told = record { port = port; sent = p.sent };
}

-- A step is performed: the changes of its effect come first, and then its cycles pass. A write to a port is reported
-- with the cycle in which the step starts.
abbrev pub performed : {M : Type 0} → Inputs → State M → Effect → M → Performed M
performed inputs s e memory =
    passed_into memory (port_entry s.cycle e) (cycles_passed inputs e.cycles (changed_by s.cycle s.periph e))
