use Rattle.std.proofs.Common.{ap, ◌∙◌}
use Rattle.m51_timers_uart.specs.OnlyCounting.{timer2_is_plain}
use Rattle.m51_timers_uart.specs.Timers.{Timed}
use Rattle.m51_timers_uart.proofs.CountsOn.{kept2}
use Rattle.m51_timers_uart.proofs.only_counting.count_clocks.Goals as goal

pub pass_timer2-timer2-requires : goal.pass_timer2-timer2-requires
pass_timer2-timer2-requires c =
    ap (λ (t : Timed). timer2_is_plain t.cpu) c.pass_timers-timer1.ensures
    ∙ kept2 c.args.levels.now c.args.cpu.now c.requires.registers c.requires.timer2
