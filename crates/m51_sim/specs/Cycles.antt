-- The machine cycles of a step: what the outside gives in each of them, and what passes in them.
use Rattle.std.specs.Prelude.{◌≡◌, ℕ, zero, suc, ◌+◌, ◌-◌, ◌^◌, ◌==◌, ◌≤◌, nat_le, min, if◌then◌else◌, List, [], ◌∷◌}
use Rattle.std.specs.Prelude.{◌++◌, length, Option, Some, None}
use Rattle.std.specs.Option.{option_map}
use Rattle.m51_cells.specs.declared.event.Entry.{Entry}
use Rattle.m51_cells.specs.declared.event.Entry.TheVariants.{Sent as SentByte}
use Rattle.m51_flat.specs.declared.state.Pins.{Pins}
use Rattle.m51_timers_uart.specs.declared.periph.Sent.{Sent}
use Rattle.m51_timers_uart.specs.declared.receiving.Frame.{Frame}
use Rattle.m51_timers_uart.specs.OnlyCounting.{AreCounting}
use Rattle.m51_timers_uart.specs.Resting.{AreResting}
use Rattle.m51_timers_uart.specs.Sending.{Ticked}
use Rattle.m51_timers_uart.specs.Tick.{ticked}
use Rattle.m51_script.specs.declared.script.Script.{Script}
use Rattle.m51_script.specs.Levels.{all_high, levels_after}
use Rattle.m51_script.specs.Timing.{those}
use Rattle.m51_sim.specs.declared.cycles.Pace.{Pace}
use Rattle.m51_sim.specs.declared.cycles.Pace.TheVariants.{Resting, Counting}
use Rattle.m51_sim.specs.declared.cycles.Passing.{Passing}
use Rattle.m51_sim.specs.declared.cycles.Timed.{Timed}

-- what the outside gives in each cycle: the levels of the pins, and the frames that arrive
pub record Inputs : Type 0 where
  pub pins : ℕ → Pins
  pub frames : ℕ → List Frame

-- those of a script
abbrev pub inputs_of : Script → Inputs
inputs_of script = record {
  pins = λ cycle. levels_after all_high (those (λ d. nat_le d cycle) script.pins.cycles script.pins.items);
  frames = λ cycle. those (λ d. d == cycle) script.frames.cycles script.frames.items;
}

-- the frames among these that arrive in a cycle
abbrev pub frames_in : ℕ → List Timed → List Frame
frames_in cycle [] = []
frames_in cycle (t ∷ ts) = if t.cycle == cycle then t.frame ∷ frames_in cycle ts else frames_in cycle ts

-- further frames come after the others of their cycle
abbrev pub with_extra : List Timed → Inputs → Inputs
with_extra extra inputs =
    record { pins = inputs.pins; frames = λ cycle. inputs.frames cycle ++ frames_in cycle extra }

-- there are at most seven of one cycle
pub record AreFew (extra : List Timed) : Type 0 where
  pub each : (cycle : ℕ) → length (frames_in cycle extra) ≤ 7

-- the number of the next cycle; it stays at its last value
abbrev pub next_cycle : ℕ → ℕ
next_cycle cycle = min (cycle + 1) (2 ^ 64 - 1)

-- the entry of a byte whose sending ends with this cycle
abbrev pub sent_in : ℕ → Option Sent → Option Entry
sent_in cycle sent = option_map (λ s. SentByte cycle s.byte s.ninth) sent

-- the first of two, or if it is None the second; in the cycles of a step at most one byte is sent
abbrev pub first_sent : Option Entry → Option Entry → Option Entry
first_sent None later = later
first_sent (Some earlier) later = Some earlier

-- what a tick leaves, where the number of its cycle is the one that it ends with
abbrev pub after_tick : ℕ → Option Entry → Ticked → Passing
after_tick cycle sent t =
    record { cpu = t.cpu; periph = t.periph; cycle = cycle; sent = first_sent sent (sent_in cycle t.sent) }

-- one machine cycle: its tick takes the pins and the frames of the cycle that it ends with
unfoldable pub cycle_passed : Inputs → Passing → Passing
cycle_passed inputs p =
    let cycle = next_cycle p.cycle in
    after_tick cycle p.sent (ticked p.cpu (inputs.pins cycle) (inputs.frames cycle) p.periph)

-- this number of machine cycles, one after another
unfoldable pub cycles_passed : Inputs → ℕ → Passing → Passing
cycles_passed inputs zero p = p
cycles_passed inputs (suc count) p = cycle_passed inputs (cycles_passed inputs count p)

-- a script has no PIN line and no frame, and the devices rest: machine cycles change nothing but their number
pub record Rests (script : Script) (p : Passing) : Type 0 where
  pub pins : script.pins.cycles ≡ []
  pub frames : script.frames.cycles ≡ []
  pub devices : AreResting p.cpu all_high p.periph

-- the same, but the devices count
pub record Counts (script : Script) (p : Passing) : Type 0 where
  pub pins : script.pins.cycles ≡ []
  pub frames : script.frames.cycles ≡ []
  pub devices : AreCounting p.cpu all_high p.periph

-- the devices go at this pace
abbrev pub IsPaced : Pace → Script → Passing → Type 0
IsPaced Resting script p = Rests script p
IsPaced Counting script p = Counts script p
