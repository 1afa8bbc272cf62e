-- The separate machine: records of what is active, and a store for each segment.
use Rattle.std.specs.Prelude.{ℕ, zero, suc, ◌+◌, ◌%◌, Bool, true, ◌&&◌, if◌then◌else◌, List, Option, Some, None, Result}
use Rattle.std.specs.Prelude.{Ok, Err}
use Rattle.m51_cells.specs.declared.cell.Cell.{Cell}
use Rattle.m51_cells.specs.declared.event.Event.{Event}
use Rattle.m51_cells.specs.declared.event.Event.TheVariants as events
use Rattle.m51_cells.specs.declared.event.Why.TheVariants.{PastEnd}
use Rattle.m51_isa.specs.declared.instr.Instr.{Instr}
use Rattle.m51_isa.specs.Table.{length_of}
use Rattle.m51_module.specs.declared.parts.LayoutParts.{LayoutParts}
use Rattle.m51_flat.specs.declared.state.Cpu.{Cpu}
use Rattle.m51_flat.specs.declared.state.Pins.{Pins}
use Rattle.m51_flat.specs.declared.state.Effect.{Effect}
use Rattle.m51_flat.specs.declared.state.Outcome.{Outcome}
use Rattle.m51_flat.specs.declared.state.Outcome.TheVariants as outcome
use Rattle.m51_flat.specs.Meaning.{instruction_outcome}
use Rattle.m51_flat.specs.States.{States}
use Rattle.m51_irq.specs.Vectoring.{vectored}
use Rattle.m51_monitor.specs.declared.step.Move.{Move}
use Rattle.m51_monitor.specs.declared.step.Move.TheVariants.{Stay}
use Rattle.m51_monitor.specs.Found.{unit_found}
use Rattle.m51_monitor.specs.Judgement.{judge_of}
use Rattle.m51_monitor.specs.Monitored.{live_in, started, stores_after}
use Rattle.m51_monitor.specs.Records.{Records, current}
use Rattle.m51_monitor.specs.Resolved.{outside_of, resolved_cells, segment_over}
use Rattle.m51_monitor.specs.Stores.{Stores, filled_stores}
use Rattle.m51_monitor.specs.Transfers.{is_at, moved}
use Rattle.m51_sim.specs.declared.attempt.Attempt.{Attempt}
use Rattle.m51_sim.specs.declared.attempt.Attempt.TheVariants.{Vectoring, Idling, Executing, Refusing}
use Rattle.m51_sim.specs.Allowed.{Allowed}
use Rattle.m51_sim.specs.Cycles.{Inputs}
use Rattle.m51_sim.specs.Runs.{State, Performed, Machine}
use Rattle.m51_sim.specs.Effects.{attempt_of, idle_effect, performed}

-- which units are active, and the stores
pub record Separate : Type 0 where
  pub records : Records
  pub stores : Stores

-- what each cell holds, or that it is outside or unset
abbrev pub cells_of : LayoutParts → Separate → States
cells_of l m = resolved_cells l (live_in l m.records) m.stores

-- this number of bytes from the address on lie in the unit
abbrev pub lie_inside : LayoutParts → ℕ → ℕ → ℕ → Bool
lie_inside l unit pc zero = true
lie_inside l unit pc (suc count) = lie_inside l unit pc count && is_at (unit_found l ((pc + count) % 65536)) unit

-- first of all, the bytes of an instruction must lie in the current unit
abbrev pub unless_past_end : LayoutParts → Separate → ℕ → ℕ → Result Allowed Event → Result Allowed Event
unless_past_end l m pc count rest =
    if lie_inside l (current m.records) pc count then rest
    else Err (events.Transfer PastEnd pc ((pc + count) % 65536))

-- last of all, the transfer of control must be allowed
abbrev pub with_move : Effect → Result Move Event → Result Allowed Event
with_move e (Ok step) = Ok (record { effect = e; step = step })
with_move e (Err event) = Err event

-- the event of a cell that holds no value; it is in a live segment, since only those have unset cells
abbrev pub unwritten_in : Cell → ℕ → Option ℕ → Event
unwritten_in c at (Some segment) = events.Unwritten c segment at
unwritten_in c at None = events.Outside c at

-- in between, the first read without a value, the first put outside, and power-down
abbrev pub concludes : LayoutParts → Separate → Cpu → Outcome → Result Allowed Event
concludes l m cpu (outcome.Done e) = with_move e (judge_of l m.records cpu e)
concludes l m cpu (outcome.Outside c) = Err (events.Outside c cpu.pc)
concludes l m cpu (outcome.Unset c) = Err (unwritten_in c cpu.pc (segment_over l (live_in l m.records) c))
concludes l m cpu outcome.PowerDown = Err (events.PowerDown cpu.pc)

-- the outcome of an instruction over the stores; a cell that is outside may be neither read nor written
abbrev pub instr_outcome : LayoutParts → Separate → Cpu → Instr → List ℕ → Pins → Outcome
instr_outcome l m cpu instr image pins =
    let cells = cells_of l m in instruction_outcome cpu cells (outside_of cells) instr image pins

-- the result of a step, with these levels of the pins: the first event, or the effect and how it changes the records
unfoldable pub separate_effect : LayoutParts → List ℕ → Cpu → Separate → Pins → Attempt → Result Allowed Event
separate_effect l image cpu m pins (Vectoring source) =
    concludes l m cpu (vectored cpu (outside_of (cells_of l m)) source)
separate_effect l image cpu m pins Idling = Ok (record { effect = idle_effect cpu; step = Stay })
separate_effect l image cpu m pins (Executing instr) =
    unless_past_end l m cpu.pc (length_of instr) (concludes l m cpu (instr_outcome l m cpu instr image pins))
separate_effect l image cpu m pins Refusing = unless_past_end l m cpu.pc 1 (Err (events.Reserved cpu.pc))

-- the puts, the first one first, where the records before say which stores are live, and the change of the records,
-- after which the stores of dead segments are unset
abbrev pub memory_after : LayoutParts → Separate → Allowed → Separate
memory_after l m allowed =
    let records = moved m.records allowed.effect allowed.step in
    record { records = records; stores = stores_after l m.records records allowed.effect m.stores }

-- an effect that is allowed is performed; an event changes nothing
abbrev pub separate_performs : LayoutParts → Inputs → State Separate → Result Allowed Event
    → Result (Performed Separate) Event
separate_performs l inputs s (Ok allowed) = Ok (performed inputs s allowed.effect (memory_after l s.memory allowed))
separate_performs l inputs s (Err event) = Err event

-- the separate machine of a layout, which holds an image
abbrev pub separate_machine : LayoutParts → List ℕ → Inputs → Machine Separate
separate_machine l image inputs s =
    separate_performs l inputs s
    (separate_effect l image s.cpu s.memory (inputs.pins s.cycle) (attempt_of image s.cpu))

-- the unit of 0000H, which the reset names
abbrev pub or_zero : Option ℕ → ℕ
or_zero None = 0
or_zero (Some unit) = unit

abbrev pub reset_unit : LayoutParts → ℕ
reset_unit l = or_zero (unit_found l 0)

-- The memory after a reset: only the unit of 0000H is active, each plain segment and the common store have the fill,
-- and overlaid segments are unset.
abbrev pub separate_start : LayoutParts → ℕ → Separate
separate_start l fill = record { records = started (reset_unit l); stores = filled_stores l fill }
