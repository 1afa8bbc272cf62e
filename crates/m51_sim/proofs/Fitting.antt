-- An effect that is judged may be performed with its move.
use Rattle.m51_sim.proofs.Common.{◌≡◌, ℕ, ◌+◌, Bool, true, false, List, [], ◌∷◌, Option, Some, None}
use Rattle.m51_sim.proofs.Common.{Result, Ok, Err, refl, sym, subst, Event, LayoutParts, IsSound, Cpu}
use Rattle.m51_sim.proofs.Common.{Effect, Source, sp, Stay, AreActivations, Monitored, current, Cell, idle_effect}
use Rattle.m51_sim.proofs.Common.{IsInOrder}
use Rattle.std.specs.Prelude.{IfErr, IfOk}
use Rattle.std.proofs.Common.{rules}
use Rattle.std.proofs.lemmas.Bool.{cond_both, le-ltb}
use Rattle.m51_cells.specs.declared.event.Why.{Why}
use Rattle.m51_flat.specs.declared.state.Put.TheVariants.{Nothing}
use Rattle.m51_flat.specs.declared.state.Transfer.{Transfer}
use Rattle.m51_flat.specs.declared.state.Transfer.TheVariants.{Next, Jump, Call, Ret, Reti, Vector}
use Rattle.m51_flat.specs.Sfr.{latch}
use Rattle.m51_flat.specs.States.{shut_of}
use Rattle.m51_monitor.specs.declared.step.Move.{Move}
use Rattle.m51_monitor.specs.declared.step.Move.TheVariants.{Return, Interrupt as InterruptTo}
use Rattle.m51_monitor.specs.Monitored.{HasAddress, HasLevel}
use Rattle.m51_monitor.specs.Records.{Records, ReturnRecord}
use Rattle.m51_monitor.specs.Rising.{IsAbove, levels, taken_after}
use Rattle.m51_monitor.specs.Shared.{shared_barred}
use Rattle.m51_monitor.specs.Transfers.{IsMoveOrEvent, Judges, as_event, interrupts_to, is_sp_below, judged_as}
use Rattle.m51_monitor.specs.Transfers.{jump_or_call, move_to, moved, refused_if, return_move, within}
use Rattle.m51_monitor.proofs.CurrentUnit.{covers_is_kept}
use Rattle.m51_monitor.proofs.Finding.{is_number}
use Rattle.m51_monitor.proofs.Levels.{levels_are_kept, stack_is_kept}
use Rattle.m51_print.specs.Lines.{HasText}
use Rattle.m51_sim.specs.Allowed.{Allowed as AllowedEffect}
use Rattle.m51_sim.specs.SeparateMachine.{with_move}
use Rattle.m51_sim.specs.Ready.{HasRoom, IsPrepared, MayCommit, StoresAddress}

-- what the table allows has the property of each of its moves
module _ (P : Move → Type 0) where
  abbrev Has : Result Move Why → Type 0
  Has (Ok step) = P step
  Has (Err why) = Unit {0}

  unless : (b : Bool) (why : Why) (r : Result Move Why) → Has r → Has (refused_if b why r)
  unless true why r h = tt
  unless false why r h = h

  jumps : (l : LayoutParts) (from : ℕ) (low call : Bool) (o : Option ℕ) → P (within call)
      → ((u : ℕ) → P (move_to call u)) → Has (jump_or_call l from low call o)
  jumps l from low call None h k = tt
  jumps l from low call (Some u) h k = let there = k u in search (rules, unless, cond_both)

  returns : (reset : List ℕ) (rs : List ReturnRecord) (call : Bool) (top to : ℕ) (at : Option ℕ) → P Return
      → Has (return_move reset rs call top to at)
  returns reset [] call top to at h = tt
  returns reset (r ∷ rs) call top to at h = search (rules, unless)

  interrupts : (a : Records) (source : Source) (low : Bool) (o : Option ℕ) → ((u : ℕ) → P (InterruptTo source u))
      → Has (interrupts_to a source low o)
  interrupts a source low None h = tt
  interrupts a source low (Some u) h = let there = h u in search (rules, unless)

-- an effect whose move makes a record stores two bytes, and a vectoring has room
abbrev Fits : Monitored → Effect → Move → Type 0
Fits m e step = HasAddress e step × HasLevel m step

fits : (m : Monitored) (e : Effect) (top new to : ℕ) (t : Transfer) (at root : Option ℕ) → StoresAddress t e
    → HasRoom m t → Has (Fits m e) (judged_as m.layout m.records top new to t at root)
fits m e top new to Next at root stores room =
    let has : Has (Fits m e) (Ok Stay) = (tt, tt) in search (rules, unless)
fits m e top new to Jump at root stores room =
    jumps (Fits m e) m.layout (current m.records) _ false at (tt, tt) (λ u. (tt, tt))
fits m e top new to Call at root stores room =
    jumps (Fits m e) m.layout (current m.records) _ true at (stores, tt) (λ u. (stores, tt))
fits m e top new to Ret at root stores room =
    returns (Fits m e) m.records.reset m.records.returns true top to at (tt, tt)
fits m e top new to Reti at root stores room =
    returns (Fits m e) m.records.reset m.records.returns false top to at (tt, tt)
fits m e top new to (Vector source) at root stores room =
    interrupts (Fits m e) m.records source _ root (λ u. (stores, room))

-- an effect that is prepared may be performed with its move, and an undeclared transfer has a text
answered : (m : Monitored) (cpu : Cpu) (e : Effect) (count : ℕ) (answer : Result Move Why) → IsPrepared m cpu e
    → Judges m.layout m.records cpu e answer
    → (let r = as_event cpu.pc e.cpu.pc answer in IfOk (with_move e r) (MayCommit m cpu) × IfErr r (HasText count))
answered m cpu e count (Err why) h judges = (tt, tt)
answered m cpu e count (Ok step) h judges =
    let k : Fits m e step = subst (Has (Fits m e)) (sym judges.is)
    (fits m e (latch cpu sp) (latch e.cpu sp) e.cpu.pc e.transfer judges.at judges.root h.regular.stores h.room) in
    (record { judges = judges; prepared = h; address = k.0; level = k.1 }, tt)

pub judged_may : (m : Monitored) (cpu : Cpu) (e : Effect) (r : Result Move Event) (count : ℕ) → IsPrepared m cpu e
    → IsMoveOrEvent m.layout m.records cpu e r → IfOk (with_move e r) (MayCommit m cpu) × IfErr r (HasText count)
judged_may m cpu e r count h a = rw a.is (answered m cpu e count a.answer h a.judges)

-- what a processor keeps through the cycles of a step
pub record KeepsControl (old new : Cpu) : Type 0 where
  pub pc : new.pc ≡ old.pc
  pub low : new.low ≡ old.low
  pub high : new.high ≡ old.high
  pub stack : latch new sp ≡ latch old sp

-- an idle cycle changes no record
above_low : (rs : List ReturnRecord) (top : ℕ) → IsAbove rs 0 top → is_sp_below rs 0 top ≡ false
above_low [] top h = refl
above_low (r ∷ rs) top h = le-ltb top (r.sp + 0) h

pub idle_commits : (m : Monitored) (cpu : Cpu) → IsInOrder m cpu
    → MayCommit m cpu (record { effect = idle_effect cpu; step = Stay })
unfolding latch shut_of
idle_commits m cpu order = record {
  judges = record {
    at = Some (current m.records);
    root = None;
    at_is = order.covered;
    root_is = tt;
    is = rw (is_number (current m.records) _ refl, above_low m.records.returns (latch cpu sp) order.above) refl;
  };
  prepared = record {
    opened = record { first = refl; second = refl };
    regular = record { goes = tt; pops = tt; follows = refl; stores = tt };
    room = tt;
  };
  address = tt;
  level = tt;
}
