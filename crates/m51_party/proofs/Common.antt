-- What three or more files of these proofs import.
pub use Rattle.std.proofs.Common.{◌++◌, ◌+◌, ◌-◌, ◌<◌, ◌^◌, ◌∙◌, ◌∷◌, ◌≡◌, ◌≤◌, ◌⊎◌, Bool, Err, List, None, Ok, Option}
pub use Rattle.std.proofs.Common.{Result, Some, [], ap, append-nil, append_assoc, arith, drop, false, inl, inr, length}
pub use Rattle.std.proofs.Common.{refl, subst, suc, sym, true, zero, zero-add, ℕ}
pub use Rattle.std.proofs.lemmas.Bool.{ne_eqb}
pub use Rattle.std.proofs.lemmas.Grind.{flat_map-append}
pub use Rattle.std.proofs.lemmas.Option.{none-some, same_Some}
pub use Rattle.std.specs.Io.KnownBytes.{Appends}
pub use Rattle.std.specs.Prelude.{◌==◌, All, OnErr, OnOk, flat_map, if◌then◌else◌, min, nat_lt, option_to_list}
pub use Rattle.std.specs.Prelude.{slice_get, slice_set}
pub use Rattle.m51_cells.proofs.Fronts.{front_at_end}
pub use Rattle.m51_cells.proofs.Members.{Every, every_append, every_weaker}
pub use Rattle.m51_cells.specs.Outside.{AppendsFront}
pub use Rattle.m51_cells.specs.declared.event.Entry.{Entry}
pub use Rattle.m51_cells.specs.declared.event.Entry.TheVariants.{Port}
pub use Rattle.m51_cells.specs.declared.event.Event.{Event}
pub use Rattle.m51_module.specs.declared.parts.LayoutParts.{LayoutParts}
pub use Rattle.m51_party.specs.Family.{Family, IsFamily, IsFresh, frames_for, frames_of, frames_sent, machine_with}
pub use Rattle.m51_party.specs.Family.{record_with, records_from}
pub use Rattle.m51_party.specs.Seats.{HasEventText, IsSeatStep, ends_text, kept_for, new_seat, next_from, start_of}
pub use Rattle.m51_party.specs.Seats.{told_text}
pub use Rattle.m51_party.specs.Steps.{head_text}
pub use Rattle.m51_party.specs.Text.{StepTold, front_of, greatest_cycle, last_lines, steps_from}
pub use Rattle.m51_party.specs.declared.choosing.NextStep.{NextStep}
pub use Rattle.m51_party.specs.declared.seat.Seat.{Seat}
pub use Rattle.m51_print.specs.Lines.{entry_line}
pub use Rattle.m51_sim.specs.Boards.{BoardState, separate_of}
pub use Rattle.m51_sim.specs.Cycles.{Inputs, frames_in, inputs_of, next_cycle, sent_in, with_extra}
pub use Rattle.m51_sim.specs.Effects.{attempt_of, changed_by}
pub use Rattle.m51_sim.specs.Runs.{Machine, Record, State, entries_of, record_from}
pub use Rattle.m51_sim.specs.SeparateMachine.{Separate, memory_after, separate_effect, separate_machine}
pub use Rattle.m51_sim.specs.SeparateMachine.{separate_performs}
pub use Rattle.m51_sim.specs.declared.cycles.Timed.{Timed}
pub use Rattle.m51_sim.specs.declared.runs.Told.{Told}
