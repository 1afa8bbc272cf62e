-- Facts for callers of private functions, and no definitions: what is known of an effect before it is performed.
use Rattle.std.specs.Prelude.{◌≡◌, ◌≤◌, Bool, None, Ok}
use Rattle.m51_cells.specs.declared.cell.Cell.{Cell}
use Rattle.m51_cells.specs.Cells.{IsDataCell}
use Rattle.m51_flat.specs.declared.state.Cpu.{Cpu}
use Rattle.m51_flat.specs.declared.state.Effect.{Effect}
use Rattle.m51_flat.specs.declared.state.Outcome.{Outcome}
use Rattle.m51_flat.specs.declared.state.Outcome.TheVariants as outcome
use Rattle.m51_flat.specs.declared.state.Transfer.{Transfer}
use Rattle.m51_flat.specs.declared.state.Transfer.TheVariants.{Call, Vector}
use Rattle.m51_flat.specs.Laws.{IfDone}
use Rattle.m51_flat.specs.Sfr.{latch, sp}
use Rattle.m51_flat.specs.States.{shut_of}
use Rattle.m51_monitor.specs.Laws.{FollowsLevels, GoesToVector, Pops}
use Rattle.m51_monitor.specs.Monitored.{HasAddress, HasLevel, IsByte, Monitored}
use Rattle.m51_monitor.specs.Rising.{interrupts, levels}
use Rattle.m51_monitor.specs.Shared.{shared_barred}
use Rattle.m51_monitor.specs.Transfers.{Judges}
use Rattle.m51_sim.specs.Allowed.{Allowed}

-- both puts may be written
pub record AreOpen (barred : Cell → Bool) (e : Effect) : Type 0 where
  pub first : shut_of barred e.first ≡ None
  pub second : shut_of barred e.second ≡ None

-- a call and a vectoring store two bytes
abbrev pub StoresAddress : Transfer → Effect → Type 0
StoresAddress Call e = IsByte e.first × IsByte e.second
StoresAddress (Vector source) e = IsByte e.first × IsByte e.second
StoresAddress other e = Unit {0}

-- control, stack and levels follow the transfer
pub record IsRegular (cpu : Cpu) (e : Effect) : Type 0 where
  pub goes : GoesToVector e.transfer e.cpu.pc
  pub pops : Pops e.transfer (latch cpu sp) (latch e.cpu sp)
  pub follows : FollowsLevels e.transfer (levels cpu) (levels e.cpu)
  pub stores : StoresAddress e.transfer e

-- if an interrupt is taken, at most one other is in progress
abbrev pub HasRoom : Monitored → Transfer → Type 0
HasRoom m (Vector source) = interrupts m.records.returns ≤ 1
HasRoom m other = Unit {0}

pub record IsPrepared (m : Monitored) (cpu : Cpu) (e : Effect) : Type 0 where
  pub opened : AreOpen (shared_barred m.store) e
  pub regular : IsRegular cpu e
  pub room : HasRoom m e.transfer

-- a cell that an outcome names is one of data memory
abbrev pub NamesData : Outcome → Type 0
NamesData (outcome.Done e) = Unit {0}
NamesData (outcome.Outside c) = IsDataCell c
NamesData (outcome.Unset c) = IsDataCell c
NamesData outcome.PowerDown = Unit {0}

pub record IsOutcomePrepared (m : Monitored) (cpu : Cpu) (o : Outcome) : Type 0 where
  pub named : NamesData o
  pub prepared : IfDone o (IsPrepared m cpu)

-- the effect may be performed with its move
pub record MayCommit (m : Monitored) (cpu : Cpu) (a : Allowed) : Type 0 where
  pub judges : Judges m.layout m.records cpu a.effect (Ok a.step)
  pub prepared : IsPrepared m cpu a.effect
  pub address : HasAddress a.effect a.step
  pub level : HasLevel m a.step
