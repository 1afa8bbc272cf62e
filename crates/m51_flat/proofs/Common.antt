-- What three or more files of these proofs import.
pub use Rattle.std.proofs.Common.{◌%◌, ◌*◌, ◌+◌, ◌-◌, ◌/◌, ◌<◌, ◌∙◌, ◌∷◌, ◌≡◌, ◌≢◌, ◌≤◌, Bool, Err, List, None, Ok}
pub use Rattle.std.proofs.Common.{Option, Result, Some, ap, arith, cond, false, get_or-set_other, get_or-set_same}
pub use Rattle.std.proofs.Common.{length, lit<, refl, rules, subst, suc, sym, true, zero, ℕ, ⊎_elim}
pub use Rattle.std.proofs.lemmas.Bool.Decides.{eqb_tells}
pub use Rattle.std.specs.Int.{bit_at}
pub use Rattle.std.specs.Prelude.{◌&&◌, ◌==◌, slice_index, slice_set}
pub use Rattle.m51_alu.specs.Arithmetic.{bit_of, parity_of}
pub use Rattle.m51_cells.specs.Outcome.{and_then}
pub use Rattle.m51_cells.specs.declared.cell.Cell.{Cell}
pub use Rattle.m51_flat.specs.Actions.{action_of}
pub use Rattle.m51_flat.specs.Flat.{FlatBytes, flat_cells}
pub use Rattle.m51_flat.specs.Laws.{Always, HasParity}
pub use Rattle.m51_flat.specs.Meaning.{concluded, plan, plan_of, started, unless_shut}
pub use Rattle.m51_flat.specs.Reads.{Access, Agrees, CellMap, Ends, Read, Reads, access_seen, accesses_over}
pub use Rattle.m51_flat.specs.Reads.{first_missing, result_over, value_or_missing}
pub use Rattle.m51_flat.specs.Sfr.{acc, psw, sbuf, sp}
pub use Rattle.m51_flat.specs.States.{Absent, CellState, Fresh, Holds, States, answered, bits_seen, on_value, ram_cell}
pub use Rattle.m51_flat.specs.States.{xram_cell}
pub use Rattle.m51_flat.specs.declared.actions.Action.{Action}
pub use Rattle.m51_flat.specs.declared.actions.Action.TheVariants.{CallNear, CallTo, JumpIndirect, Return}
pub use Rattle.m51_flat.specs.declared.actions.ReturnFrom.{ReturnFrom}
pub use Rattle.m51_flat.specs.declared.actions.ReturnFrom.TheVariants.{Interrupt, Subroutine}
pub use Rattle.m51_flat.specs.declared.state.Cpu.{Cpu}
pub use Rattle.m51_flat.specs.declared.state.Effect.{Effect}
pub use Rattle.m51_flat.specs.declared.state.NoEffect.{NoEffect}
pub use Rattle.m51_flat.specs.declared.state.Pins.{Pins}
pub use Rattle.m51_flat.specs.declared.state.Put.{Put}
pub use Rattle.m51_flat.specs.declared.state.Put.TheVariants.{Bit, Byte, Nothing, Xbyte}
pub use Rattle.m51_flat.specs.declared.state.Seen.{Seen}
pub use Rattle.m51_flat.specs.declared.state.Seen.TheVariants.{Value}
pub use Rattle.m51_isa.specs.declared.instr.Instr.{Instr}
