use Rattle.m51_timers_uart.proofs.InTime as lemmas
use Rattle.m51_timers_uart.proofs.laws.mode_1_is_sent_at_its_cycle.Goals as goal

pub returns : goal.returns
returns c = lemmas.sent_at_its_cycle
