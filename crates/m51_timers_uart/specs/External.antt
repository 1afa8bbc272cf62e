-- External interrupts, from the family manual.
use Rattle.std.specs.Prelude.{ℕ, true, not, if◌then◌else◌}
use Rattle.m51_flat.specs.declared.state.Cpu.{Cpu}
use Rattle.m51_flat.specs.Sfr.{flag, with_flag, tcon}
use Rattle.m51_timers_uart.specs.declared.levels.Levels.{Levels}
use Rattle.m51_timers_uart.specs.declared.levels.Input.{Input}
use Rattle.m51_timers_uart.specs.declared.levels.Input.TheVariants.{Int0, Int1}
use Rattle.m51_flat.specs.Flags.{ie0, ie1, it0, it1}
use Rattle.m51_timers_uart.specs.Levels.{falls, is_high}

-- with IT 1 a fall of the INT pin sets the flag; with IT 0 the flag is 1 exactly if the level is 0
unfoldable pub requested : Levels → Input → ℕ → ℕ → Cpu → Cpu
requested levels pin it ask cpu =
    if flag cpu tcon it then (if falls levels pin then with_flag cpu tcon ask true else cpu)
    else with_flag cpu tcon ask (not (is_high levels pin))

abbrev pub externals_ticked : Levels → Cpu → Cpu
externals_ticked levels cpu = requested levels Int1 it1 ie1 (requested levels Int0 it0 ie0 cpu)
