-- What three or more files of these proofs import.
pub use Rattle.std.proofs.Common.{◌%◌, ◌&&◌, ◌++◌, ◌+◌, ◌-◌, ◌<◌, ◌∙◌, ◌∷◌, ◌≡◌, ◌≤◌, Bool, Err, List, None, Ok, Option}
pub use Rattle.std.proofs.Common.{Result, Some, [], ap, append-nil, arith, cond, false, length, length-append, refl}
pub use Rattle.std.proofs.Common.{subst, suc, sym, take, true, zero, ℕ, ⊎_elim}
pub use Rattle.std.specs.Prelude.{if◌then◌else◌}
pub use Rattle.m51_cells.specs.declared.cell.Cell.{Cell}
pub use Rattle.m51_cells.specs.declared.event.Event.{Event}
pub use Rattle.m51_cells.specs.declared.event.Why.TheVariants.{PastEnd}
pub use Rattle.m51_flat.specs.Meaning.{plan_of}
pub use Rattle.m51_flat.specs.Reads.{CellMap}
pub use Rattle.m51_flat.specs.Sfr.{flag, pcon, sp}
pub use Rattle.m51_flat.specs.declared.state.Cpu.{Cpu}
pub use Rattle.m51_flat.specs.declared.state.Effect.{Effect}
pub use Rattle.m51_flat.specs.declared.state.Pins.{Pins}
pub use Rattle.m51_flat.specs.declared.state.Source.{Source}
pub use Rattle.m51_irq.specs.Vectoring.{vectored}
pub use Rattle.m51_isa.specs.declared.instr.Instr.{Instr}
pub use Rattle.m51_module.specs.Sound.{IsSound}
pub use Rattle.m51_module.specs.declared.parts.LayoutParts.{LayoutParts}
pub use Rattle.m51_monitor.specs.Found.{unit_found}
pub use Rattle.m51_monitor.specs.Monitored.{AreActivations, Monitored, live_in}
pub use Rattle.m51_monitor.specs.Records.{current}
pub use Rattle.m51_monitor.specs.Resolved.{segment_over}
pub use Rattle.m51_monitor.specs.Transfers.{is_at}
pub use Rattle.m51_monitor.specs.declared.step.Move.TheVariants.{Stay}
pub use Rattle.m51_script.specs.declared.script.Script.{Script}
pub use Rattle.m51_sim.specs.Allowed.{Allowed}
pub use Rattle.m51_sim.specs.Boards.{ChipState, IsInOrder, held_memory, map_of, stores_read}
pub use Rattle.m51_sim.specs.Cycles.{Inputs, frames_in, inputs_of, with_extra}
pub use Rattle.m51_sim.specs.Effects.{idle_effect}
pub use Rattle.m51_sim.specs.FlatMachine.{filled_map, flat_machine, map_after, reset_with}
pub use Rattle.m51_sim.specs.Run.{IsAdvance}
pub use Rattle.m51_sim.specs.Runs.{Machine, Performed, Record, State, entries_of, no_step, with_step}
pub use Rattle.m51_sim.specs.SeparateMachine.{Separate, lie_inside, separate_machine, separate_start}
pub use Rattle.m51_sim.specs.declared.attempt.Attempt.TheVariants.{Idling, Vectoring}
pub use Rattle.m51_sim.specs.declared.runs.Entries.{Entries}
