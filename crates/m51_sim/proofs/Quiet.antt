-- Cycles in which nothing happens, and those of a plain step before which the devices rest, or count.
use Rattle.m51_sim.proofs.Common.{◌≡◌, ℕ, zero, suc, ◌+◌, ◌-◌, ◌<◌, ◌≤◌, List, [], ◌∷◌, length, Option, Some, None}
use Rattle.m51_sim.proofs.Common.{refl, ap, arith, Cpu, Effect, Script, ChipState, frames_in, inputs_of, with_extra}
use Rattle.std.proofs.Common.{add-one}
use Rattle.std.specs.Prelude.{◌^◌, min}
use Rattle.m51_cells.specs.declared.event.Entry.{Entry}
use Rattle.m51_timers_uart.specs.OnlyCounting.{counted_on}
use Rattle.m51_timers_uart.specs.Tick.{ticked}
use Rattle.m51_timers_uart.proofs.CountsOn.{counting_lasts, devices_count_on}
use Rattle.m51_timers_uart.proofs.Resting.{tick_stays}
use Rattle.m51_script.specs.Levels.{all_high}
use Rattle.m51_sim.specs.declared.cycles.Pace.{Pace}
use Rattle.m51_sim.specs.declared.cycles.Pace.TheVariants.{Resting, Counting}
use Rattle.m51_sim.specs.declared.cycles.Passing.{Passing}
use Rattle.m51_sim.specs.declared.cycles.Timed.{Timed}
use Rattle.m51_sim.specs.Boards.{IsPassed}
use Rattle.m51_sim.specs.Cycles.{Counts, IsPaced, Rests, cycle_passed, cycles_passed, first_sent, next_cycle}
use Rattle.m51_sim.specs.Effects.{changed_by}
use Rattle.m51_sim.specs.Plain.{DevicesAre, KeepsDevices, KeepsPace, paced_cpu}

-- where there are no further frames, none arrives
pub none_arrive : (extra : List Timed) → length extra ≡ 0 → (cycle : ℕ) → frames_in cycle extra ≡ []
none_arrive [] h cycle = refl
none_arrive (t ∷ ts) h cycle = cc h

none_sent : (sent : Option Entry) → first_sent sent None ≡ sent
none_sent None = refl
none_sent (Some e) = refl

abbrev later : Passing → Cpu → ℕ → Passing
later p cpu cycle = record { cpu = cpu; periph = p.periph; cycle = cycle; sent = p.sent }

-- a script without lines gives the same in each cycle
module _ (script : Script) (extra : List Timed) (pins : script.pins.cycles ≡ []) (frames : script.frames.cycles ≡ [])
    (alone : length extra ≡ 0) where
  pub same_pins : (cycle : ℕ) → (inputs_of script).pins cycle ≡ all_high
  same_pins cycle = rw pins refl

  pub no_frames : (cycle : ℕ) → (with_extra extra (inputs_of script)).frames cycle ≡ []
  no_frames cycle = rw (frames, none_arrive extra alone cycle) refl

  module _ (p : Passing) (most : p.cycle ≤ 2 ^ 64 - 1) where
    one_passes : (cpu next : Cpu) (cycle : ℕ)
        → ticked cpu all_high [] p.periph ≡ record { cpu = next; periph = p.periph; sent = None }
        → cycle_passed (with_extra extra (inputs_of script)) (later p cpu cycle) ≡ later p next (next_cycle cycle)
    unfolding cycle_passed
    one_passes cpu next cycle h =
        rw (same_pins (next_cycle cycle), no_frames (next_cycle cycle), h, none_sent p.sent) refl

    -- ticks lead from each of these processors to the next, and send nothing
    cycles_lead : (at : ℕ → Cpu) (count : ℕ) → at 0 ≡ p.cpu
        → ((k : ℕ) → k < count
        → ticked (at k) all_high [] p.periph ≡ record { cpu = at (k + 1); periph = p.periph; sent = None })
        → later p (at count) (min (p.cycle + count) (2 ^ 64 - 1))
        ≡ cycles_passed (with_extra extra (inputs_of script)) count p
    unfolding cycles_passed
    cycles_lead at zero start h = rw start (ap (later p p.cpu) (omega (arith, most)))
    cycles_lead at (suc n) start h =
        let cycle = min (p.cycle + n) (2 ^ 64 - 1) in
        rw (
          ← cycles_lead at n start (λ k less. h k (omega (arith, less))),
          one_passes (at n) (at (n + 1)) cycle (h n (omega arith)),
          add-one n,
        )
        (ap (later p (at (suc n))) (omega arith))

-- where the devices rest and no further frame comes, cycles only pass
pub rest_passes : (script : Script) (extra : List Timed) (count : ℕ) (p : Passing) → p.cycle ≤ 2 ^ 64 - 1
    → length extra ≡ 0 → Rests script p
    → record p { cycle = min (p.cycle + count) (2 ^ 64 - 1) }
    ≡ cycles_passed (with_extra extra (inputs_of script)) count p
rest_passes script extra count p most alone rest =
    cycles_lead script extra rest.pins rest.frames alone p most (λ k. p.cpu) count refl
    (λ k less. tick_stays p.cpu all_high p.periph rest.devices)

-- and the devices rest after them
pub rest_lasts : (script : Script) (p q : Passing) (cycle : ℕ) → q ≡ record p { cycle = cycle } → Rests script p
    → Rests script q
rest_lasts script p q cycle e h = rw e (record { pins = h.pins; frames = h.frames; devices = h.devices })

module _ (script : Script) (p : Passing) (size : length p.cpu.regs ≡ 128) where
  pub devices_kept : (pace : Pace) (e : Effect) → IsPaced pace script p → KeepsDevices p.cpu e
      → DevicesAre pace e.cpu p.periph
  devices_kept Resting e h k = k.devices size Resting p.periph h.devices
  devices_kept Counting e h k = k.devices size Counting p.periph h.devices

  -- devices that count before a plain step count when its cycles begin
  pub counted_after : (cycle : ℕ) (e : Effect) → IsPaced Counting script p → KeepsDevices p.cpu e
      → Counts script (changed_by cycle p.periph e)
  counted_after cycle e h k =
      record { pins = h.pins; frames = h.frames; devices = rw k.line (devices_kept Counting e h k) }

-- their pace stays as before
pub paced_after : (pace : Pace) (chip : ChipState) (extra : List Timed) (e : Effect) (q : Passing)
    → KeepsPace pace chip extra e → q.cpu ≡ paced_cpu pace e → q.periph ≡ chip.periph → IsPaced pace chip.script q
paced_after Resting chip extra e q h cpu periph =
    record { pins = h.pins; frames = h.frames; devices = rw (cpu, periph) h.devices }
paced_after Counting chip extra e q h cpu periph = record {
  pins = h.pins;
  frames = h.frames;
  devices = rw (cpu, periph) (counting_lasts e.cycles e.cpu all_high chip.periph h.devices.counting);
}

-- and the cycles pass at once
passes_on : (pace : Pace) (chip : ChipState) (extra : List Timed) (e : Effect) → chip.cycle ≤ 2 ^ 64 - 1
    → KeepsPace pace chip extra e
    → record {
      cpu = paced_cpu pace e;
      periph = chip.periph;
      cycle = min (chip.cycle + e.cycles) (2 ^ 64 - 1);
      sent = None;
    } ≡ cycles_passed (with_extra extra (inputs_of chip.script)) e.cycles (changed_by chip.cycle chip.periph e)
passes_on Resting chip extra e most h =
    rw h.line (rest_passes chip.script extra e.cycles _ most h.alone
    (record { pins = h.pins; frames = h.frames; devices = h.devices }))
passes_on Counting chip extra e most h =
    let counts = devices_count_on e.cycles e.cpu all_high chip.periph h.registers h.devices in
    rw h.line (cycles_lead chip.script extra h.pins h.frames h.alone _ most (λ k. counted_on k e.cpu) e.cycles
    counts.start counts.next)

-- so a step is performed that reports nothing
pub pace_kept : {pace : Pace} {old new : ChipState} {extra : List Timed} {e : Effect} → old.cycle ≤ 2 ^ 64 - 1
    → KeepsPace pace old extra e
    → new ≡ record old { cpu = paced_cpu pace e; cycle = min (old.cycle + e.cycles) (2 ^ 64 - 1) }
    → IsPassed (with_extra extra (inputs_of old.script)) old new e (record { port = None; sent = None })
pace_kept {pace} {old} {extra} {e} most h is =
    record { port = rw h.port refl; passed = rw is (passes_on pace old extra e most h) }
