-- Devices at rest: a machine cycle in which no frame arrives changes nothing.
use Rattle.std.specs.Prelude.{◌≡◌, ℕ, Bool, true, not, ◌==◌, if◌then◌else◌, List, [], ◌∷◌}
use Rattle.std.specs.Int.{bit_at}
use Rattle.m51_flat.specs.declared.state.Cpu.{Cpu}
use Rattle.m51_flat.specs.declared.state.Pins.{Pins}
use Rattle.m51_flat.specs.Flags.{ie0, ie1, it0, it1}
use Rattle.m51_flat.specs.Sfr.{latch, p0, p1, p2, p3, t2con, tcon, tmod, with_bit}
use Rattle.m51_timers_uart.specs.declared.levels.Input.{Input}
use Rattle.m51_timers_uart.specs.declared.levels.Input.TheVariants.{Int0, Int1}
use Rattle.m51_timers_uart.specs.declared.levels.Levels.{Levels}
use Rattle.m51_timers_uart.specs.declared.periph.Periph.{Periph}
use Rattle.m51_timers_uart.specs.Levels.{falls, is_high}
use Rattle.m51_timers_uart.specs.Tick.{clocks_rest, levels_met}

-- where TCON is this byte, the request of a pin is as it is to be
unfoldable pub request_rests : Levels → Input → ℕ → ℕ → ℕ → Bool
request_rests levels pin it ask byte =
    if bit_at byte it == 1 then not (falls levels pin) else with_bit byte ask (not (is_high levels pin)) == byte

-- with these levels outside no timer runs, no byte is on its way, no level is another than at the last tick, and the
-- external requests are as they are to be
pub record AreResting (cpu : Cpu) (ext : Pins) (p : Periph) : Type 0 where
  pub clocks : clocks_rest cpu p ≡ true
  pub levels : (levels_met p cpu ext).present ≡ p.levels
  pub int0 : request_rests (levels_met p cpu ext) Int0 it0 ie0 (latch cpu tcon) ≡ true
  pub int1 : request_rests (levels_met p cpu ext) Int1 it1 ie1 (latch cpu tcon) ≡ true

-- the registers that show whether the devices rest
abbrev pub looked_at : Cpu → List ℕ
looked_at cpu =
    latch cpu p0 ∷ latch cpu p1 ∷ latch cpu p2 ∷ latch cpu p3 ∷ latch cpu tcon ∷ latch cpu tmod ∷ latch cpu t2con ∷ []
