-- What three or more files of these proofs import.
pub use Rattle.std.proofs.Common.{◌%◌, ◌&&◌, ◌*◌, ◌++◌, ◌+◌, ◌-◌, ◌/◌, ◌<◌, ◌||◌, ◌∙◌, ◌∷◌, ◌≡◌, ◌≢◌, ◌≤◌, ◌⊎◌, Bool}
pub use Rattle.std.proofs.Common.{IfSome, List, None, Ok, Option, Some, [], ap, arith, drop, false, get_or-set_other}
pub use Rattle.std.proofs.Common.{get_or-set_same, inl, inr, length, nat_eq, nat_lt, not, refl, reverse, rules, subst}
pub use Rattle.std.proofs.Common.{suc, sym, take, true, zero, ℕ, ⊎_elim}
pub use Rattle.std.proofs.lemmas.Bool.{and_parts, cases_lt, eqb-true, lt-ltb, not-false}
pub use Rattle.std.proofs.lemmas.Bool.Decides.{eqb_tells}
pub use Rattle.std.proofs.lemmas.Grind.{common_steps}
pub use Rattle.std.proofs.lemmas.List.{length-reverse, length-set, reverse-append}
pub use Rattle.std.proofs.lemmas.Option.{slice_get_within}
pub use Rattle.std.specs.Int.{bit_at}
pub use Rattle.std.specs.List.{Contains, list_any}
pub use Rattle.std.specs.Prelude.{if◌then◌else◌, slice_get, slice_index, slice_index_or, slice_set}
pub use Rattle.m51_cells.proofs.Small.{contains_first}
pub use Rattle.m51_cells.specs.Cells.{IsDataCell}
pub use Rattle.m51_cells.specs.Extent.{Covers}
pub use Rattle.m51_cells.specs.declared.cell.Cell.{Cell}
pub use Rattle.m51_cells.specs.declared.cell.Space.{Space}
pub use Rattle.m51_cells.specs.declared.cell.Space.TheVariants.{Code, Ram, Xram}
pub use Rattle.m51_cells.specs.declared.event.Why.TheVariants.{NoEdge, NotCalled, PastEnd, RootBusy, SpBelow, SpMoved}
pub use Rattle.m51_cells.specs.declared.event.Why.TheVariants.{WrongAddress}
pub use Rattle.m51_cells.specs.declared.extent.Extent.{Extent}
pub use Rattle.m51_flat.proofs.Flat.{same_states}
pub use Rattle.m51_flat.specs.Causes.{state_at}
pub use Rattle.m51_flat.specs.Flat.{flat_cells}
pub use Rattle.m51_flat.specs.Sfr.{sp}
pub use Rattle.m51_flat.specs.States.{Absent, CellState, Fresh, Holds, ram_cell, state_over, xram_cell}
pub use Rattle.m51_flat.specs.declared.state.Effect.{Effect}
pub use Rattle.m51_flat.specs.declared.state.Put.{Put}
pub use Rattle.m51_flat.specs.declared.state.Source.{Source}
pub use Rattle.m51_flat.specs.declared.state.Transfer.{Transfer}
pub use Rattle.m51_flat.specs.declared.state.Transfer.TheVariants.{Jump, Next, Ret, Reti, Vector}
pub use Rattle.m51_module.proofs.Owning.{none_in_empty}
pub use Rattle.m51_module.specs.Cells.{extent_at}
pub use Rattle.m51_module.specs.Plan.{IsOverlaid, IsPlaced, IsRootAt, IsUnitAt, Owns, owners_of}
pub use Rattle.m51_module.specs.Sound.{IsSound}
pub use Rattle.m51_module.specs.Walks.{HasEdge, has_edge}
pub use Rattle.m51_module.specs.declared.parts.LayoutParts.{LayoutParts}
pub use Rattle.m51_module.specs.declared.placed.Mark.{Mark}
pub use Rattle.m51_module.specs.declared.placed.Mark.TheVariants.{Absolute, Bank, Overlaid, Plain, Reserve}
pub use Rattle.m51_module.specs.declared.placed.Placed.{Placed}
pub use Rattle.m51_monitor.specs.Activity.{AreHolders, AreTimes, KeepsStores, answers_in, times}
pub use Rattle.m51_monitor.specs.Frames.{records_of}
pub use Rattle.m51_monitor.specs.Masks.{IsCellAt, IsMarked, Mask, flag_in, flag_of}
pub use Rattle.m51_monitor.specs.Monitored.{AreActivations, Monitored}
pub use Rattle.m51_monitor.specs.Records.{AreWalks, AreWalksOver, BeginsAt, IsWalkAbove, Records, ReturnRecord, current}
pub use Rattle.m51_monitor.specs.Records.{first_or, is_unit_among, named_over, one_more_where, running, units_named}
pub use Rattle.m51_monitor.specs.Related.{AreRelatedAll, OneLive}
pub use Rattle.m51_monitor.specs.Rising.{HeightsRise, interrupts, one_more}
pub use Rattle.m51_monitor.specs.Rows.{AreSet}
pub use Rattle.m51_monitor.specs.Shared.{IsTurned, Shared, cell_state, masked, shared_barred, shared_cells, turned_to}
pub use Rattle.m51_monitor.specs.Stores.{InCommon, InSegment, IsOver, Live, Nowhere, Resolves, StandsFor, Stores}
pub use Rattle.m51_monitor.specs.Stores.{filled_stores, has_cell, held, is_common, is_data, is_overlaid_at}
pub use Rattle.m51_monitor.specs.Stores.{is_overlaid_mark, live_by, put_into, unset_dead}
pub use Rattle.m51_monitor.specs.Transfers.{IsFoundAt, IsRootFound, interrupts_to, is_at, is_busy, is_by, is_sp_below}
pub use Rattle.m51_monitor.specs.Transfers.{judged_as, jump_or_call, jumped, move_to, moved, refused_if, return_move}
pub use Rattle.m51_monitor.specs.Transfers.{return_pushed, returns_to, within, without_top}
pub use Rattle.m51_monitor.specs.Turning.{AreTurned, Beside, IsLocalAmong, Turned, Under}
pub use Rattle.m51_monitor.specs.declared.cause.Cause.{Cause}
pub use Rattle.m51_monitor.specs.declared.cause.Cause.TheVariants.{Call, Interrupt}
pub use Rattle.m51_monitor.specs.declared.cause.ReturnFrame.{ReturnFrame}
pub use Rattle.m51_monitor.specs.declared.step.Move.{Move}
pub use Rattle.m51_monitor.specs.declared.step.Move.TheVariants.{Call as CallTo, Interrupt as InterruptTo}
pub use Rattle.m51_monitor.specs.declared.step.Move.TheVariants.{Jump as JumpTo, Local, Return, Stay}
