use Rattle.m51_timers_uart.proofs.InTime as lemmas
use Rattle.m51_timers_uart.proofs.laws.timer_1_counts_cycles.Goals as goal

pub returns : goal.returns
returns c = lemmas.timer_1_counts_cycles
