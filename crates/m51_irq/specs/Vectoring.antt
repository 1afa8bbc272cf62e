-- Taking an interrupt, from the family manual.
use Rattle.std.specs.Prelude.{◌≡◌, ℕ, ◌+◌, ◌/◌, ◌%◌, Bool, true, false, if◌then◌else◌, None}
use Rattle.m51_cells.specs.declared.cell.Cell.{Cell}
use Rattle.m51_flat.specs.declared.state.Cpu.{Cpu}
use Rattle.m51_flat.specs.declared.state.Effect.{Effect}
use Rattle.m51_flat.specs.declared.state.Outcome.{Outcome}
use Rattle.m51_flat.specs.declared.state.Outcome.TheVariants.{Done}
use Rattle.m51_flat.specs.declared.state.Put.TheVariants.{Nothing, Byte}
use Rattle.m51_flat.specs.declared.state.Source.{Source}
use Rattle.m51_flat.specs.declared.state.Source.TheVariants.{Ie0, Tf0, Ie1, Tf1, Serial, Timer2}
use Rattle.m51_flat.specs.declared.state.Transfer.TheVariants.{Next, Vector}
use Rattle.m51_flat.specs.Flags.{idl, ie0, ie1, it0, it1, tf0, tf1}
use Rattle.m51_flat.specs.Meaning.{unless_barred}
use Rattle.m51_flat.specs.Sfr.{flag, latch, pcon, sp, tcon, with_flag}
use Rattle.m51_flat.specs.Transfers.{stacked}
use Rattle.m51_flat.specs.Vectors.{vector_of}
use Rattle.m51_flat.specs.declared.state.Level.{Level}
use Rattle.m51_flat.specs.declared.state.Level.TheVariants.{Low, High}
use Rattle.m51_irq.specs.Sources.{level_of}

-- a flag of TCON is cleared where the bit that makes it an edge's is 1
abbrev pub edge_cleared : ℕ → ℕ → Cpu → Cpu
edge_cleared k edge cpu = if flag cpu tcon edge then with_flag cpu tcon k false else cpu

-- TF0 or TF1 is cleared, and IE0 or IE1 where IT0 or IT1 is 1; the flags of the serial port and of timer 2 stay
unfoldable pub cleared : Source → Cpu → Cpu
cleared Ie0 cpu = edge_cleared ie0 it0 cpu
cleared Tf0 cpu = with_flag cpu tcon tf0 false
cleared Ie1 cpu = edge_cleared ie1 it1 cpu
cleared Tf1 cpu = with_flag cpu tcon tf1 false
cleared Serial cpu = cpu
cleared Timer2 cpu = cpu

-- a level is in progress
abbrev pub entered : Level → Cpu → Cpu
entered Low cpu = record cpu { low = true }
entered High cpu = record cpu { high = true }

-- its level is in progress, its flag cleared, and bit 0 of PCON too, so that the processor is not idle
abbrev pub acknowledged : Source → Cpu → Cpu
acknowledged s cpu = entered (level_of cpu s) (with_flag (cleared s cpu) pcon idl false)

-- an interrupt that is acknowledged, which takes two cycles
abbrev pub interrupted : Cpu → Source → Effect
interrupted cpu s = record {
  cpu = record (acknowledged s cpu) { held = false };
  first = Nothing;
  second = Nothing;
  transfer = Next;
  port = None;
  sbuf = None;
  cycles = 2;
}

-- it is acknowledged, the address of the next instruction is stored above the stack, and control goes to the vector
unfoldable pub vectoring : Cpu → Source → Effect
vectoring cpu s =
    let e = stacked (interrupted cpu s) in record e { cpu = record e.cpu { pc = vector_of s }; transfer = Vector s }

-- over a store of which some cells are barred: the first of them that a put of the effect would write, or else the
-- effect
abbrev pub vectored : Cpu → (Cell → Bool) → Source → Outcome
vectored cpu barred s = unless_barred barred (vectoring cpu s) (Done (vectoring cpu s))

-- PC is the vector; its old value is stored above the stack, low byte first, and SP is raised by two
pub record IsVectoring (cpu : Cpu) (s : Source) (e : Effect) : Type 0 where
  pub transfer : e.transfer ≡ Vector s
  pub at : e.cpu.pc ≡ vector_of s
  pub low : e.first ≡ Byte ((latch cpu sp + 1) % 256) (cpu.pc % 256)
  pub high : e.second ≡ Byte ((latch cpu sp + 2) % 256) (cpu.pc / 256)
  pub stack : latch e.cpu sp ≡ (latch cpu sp + 2) % 256
  pub held : e.cpu.held ≡ false
  pub cycles : e.cycles ≡ 2
  pub port : e.port ≡ None
  pub sbuf : e.sbuf ≡ None
