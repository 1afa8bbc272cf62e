-- What the cycles of a step keep, a step that is performed, and what is in order after it.
use Rattle.m51_sim.proofs.Common.{◌≡◌, ℕ, zero, suc, List, [], append-nil, Option, Ok, refl, sym, ap, subst, ◌∙◌}
use Rattle.m51_sim.proofs.Common.{arith, LayoutParts, IsSound, Effect, CellMap, sp, Pins, AreActivations}
use Rattle.m51_sim.proofs.Common.{Monitored, Allowed, Entries, ChipState, IsInOrder, held_memory, Inputs, with_extra}
use Rattle.m51_sim.proofs.Common.{flat_machine, map_after, IsAdvance, Separate, separate_machine}
use Rattle.std.proofs.Common.{lit≤}
use Rattle.m51_cells.specs.declared.event.Entry.{Entry}
use Rattle.m51_timers_uart.specs.declared.periph.Sent.{Sent}
use Rattle.m51_timers_uart.specs.declared.receiving.Frame.{Frame}
use Rattle.m51_timers_uart.specs.Sending.{Ticked}
use Rattle.m51_timers_uart.specs.Tick.{ticked}
use Rattle.m51_timers_uart.proofs.Kept.{the_rest_is_kept}
use Rattle.m51_monitor.specs.Rising.{levels, taken_after}
use Rattle.m51_monitor.proofs.CurrentUnit.{covers_is_kept}
use Rattle.m51_monitor.proofs.Levels.{levels_are_kept, stack_is_kept}
use Rattle.m51_sim.specs.declared.cycles.Passing.{Passing}
use Rattle.m51_sim.specs.Boards.{IsPassed, state_with}
use Rattle.m51_sim.specs.Cycles.{AreFew, after_tick, cycle_passed, cycles_passed, first_sent, next_cycle}
use Rattle.m51_sim.specs.Cycles.{sent_in}
use Rattle.m51_sim.specs.Effects.{attempt_of, changed_by, performed}
use Rattle.m51_sim.specs.FlatMachine.{flat_effect}
use Rattle.m51_sim.specs.Ready.{MayCommit}
use Rattle.m51_sim.specs.SeparateMachine.{memory_after, separate_effect}
use Rattle.m51_sim.proofs.Fitting.{KeepsControl}

pub cycles_keep : (inputs : Inputs) (count : ℕ) (p : Passing) → KeepsControl p.cpu (cycles_passed inputs count p).cpu
unfolding cycle_passed cycles_passed
cycles_keep inputs zero p = record { pc = refl; low = refl; high = refl; stack = refl }
cycles_keep inputs (suc count) p =
    let q = cycles_passed inputs count p in
    let cycle = next_cycle q.cycle in
    let h = cycles_keep inputs count p in
    let k = the_rest_is_kept q.cpu (inputs.pins cycle) (inputs.frames cycle) q.periph in
    record {
      pc = k.pc ∙ h.pc;
      low = k.low ∙ h.low;
      high = k.high ∙ h.high;
      stack = k.latches sp (lit≤ tt) refl ∙ h.stack;
    }

module _ {inputs : Inputs} {old new : ChipState} {e : Effect} {told : Entries} (h : IsPassed inputs old new e told)
  where
    pub passed_keeps : KeepsControl e.cpu new.cpu
    passed_keeps =
        let k = cycles_keep inputs e.cycles (changed_by old.cycle old.periph e) in
        subst (λ (p : Passing). KeepsControl e.cpu p.cpu) (sym h.passed) k

    -- the cycles of a step are passed, so it is performed
    passed_advance : {M : Type 0} (before after : M) → IsAdvance (Ok (performed inputs (state_with old before) e after))
        (Ok told) (state_with old before) (state_with new after)
    passed_advance before after = (rw (← h.passed, ← h.port) refl, rw (← h.passed) refl)

-- a step of the separate machine, and of the flat one
pub step_done : (l : LayoutParts) (image : List ℕ) (inputs : Inputs) (old : ChipState) (m : Separate)
    {new : ChipState} {n : Separate} {a : Allowed} {told : Entries}
    → Ok a ≡ separate_effect l image old.cpu m (inputs.pins old.cycle) (attempt_of image old.cpu)
    → n ≡ memory_after l m a → IsPassed inputs old new a.effect told
    → IsAdvance (separate_machine l image inputs (state_with old m)) (Ok told) (state_with old m) (state_with new n)
step_done l image inputs old m {a} is memory h = rw (← is, memory) (passed_advance h m (memory_after l m a))

pub flat_done : (image : List ℕ) (inputs : Inputs) (old : ChipState) (m : CellMap)
    {new : ChipState} {n : CellMap} {e : Effect} {told : Entries}
    → Ok e ≡ flat_effect image old.cpu m (inputs.pins old.cycle) (attempt_of image old.cpu)
    → n ≡ map_after e.second (map_after e.first m) → IsPassed inputs old new e told
    → IsAdvance (flat_machine image inputs (state_with old m)) (Ok told) (state_with old m) (state_with new n)
flat_done image inputs old m {e} is memory h =
    rw (← is, memory) (passed_advance h m (map_after e.second (map_after e.first m)))

-- after a step that is performed, records and processor are in order
pub order_passed : {inputs : Inputs} {m n : Monitored} {old new : ChipState} {a : Allowed} {told : Entries}
    → IsSound m.layout → AreActivations m.layout m.records → IsInOrder m old.cpu → MayCommit m old.cpu a
    → n.layout ≡ m.layout → held_memory n ≡ memory_after m.layout (held_memory m) a
    → IsPassed inputs old new a.effect told → IsInOrder n new.cpu
order_passed {m} {n} {old} {new} {a} sound activations order may layout memory h =
    let e = a.effect in
    let regular = may.prepared.regular in
    let keeps = passed_keeps h in
    let records = ap (λ (s : Separate). s.records) memory in
    let same : levels new.cpu ≡ levels e.cpu = rw (keeps.low, keeps.high) refl in
    record {
      covered = rw (layout, records, keeps.pc) (covers_is_kept m old.cpu e a.step sound regular.goes may.judges);
      above = rw (records, keeps.stack) (stack_is_kept m old.cpu e a.step may.judges regular.pops activations.heights);
      taken = taken_after m.records (levels e.cpu) a.step order.taken;
      have = rw (records, same) (levels_are_kept m old.cpu e a.step order.taken may.judges regular.follows order.have);
    }

-- no further frames
pub no_extra : (inputs : Inputs) → with_extra [] inputs ≡ inputs
no_extra inputs i = record { pins = inputs.pins; frames = λ cycle. append-nil (inputs.frames cycle) i }

pub passed_alone : (inputs : Inputs) {old new : ChipState} {e : Effect} {told : Entries}
    → IsPassed (with_extra [] inputs) old new e told → IsPassed inputs old new e told
passed_alone inputs h = rw (no_extra inputs) at h

pub none_are_few : AreFew []
none_are_few = record { each = λ cycle. omega arith }

-- a tick that is given by its parts is one machine cycle
pub cycle_is : (inputs : Inputs) (p now : Passing) (pins : Pins) (frames : List Frame) (told : Option Sent)
    → now.cycle ≡ next_cycle p.cycle → pins ≡ inputs.pins now.cycle → frames ≡ inputs.frames now.cycle
    → record { cpu = now.cpu; periph = now.periph; sent = told } ≡ ticked p.cpu pins frames p.periph
    → now.sent ≡ first_sent p.sent (sent_in now.cycle told) → now ≡ cycle_passed inputs p
unfolding cycle_passed
cycle_is inputs p now pins frames told counted levels arrive tick sent =
    ap (λ (e : Option Entry). record { cpu = now.cpu; periph = now.periph; cycle = now.cycle; sent = e }) sent
    ∙ ap (λ (t : Ticked). after_tick now.cycle p.sent t) tick ∙ (rw (levels, arrive, counted) refl)
