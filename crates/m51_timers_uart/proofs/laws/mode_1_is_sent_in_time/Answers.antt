use Rattle.m51_timers_uart.proofs.Rates as lemmas
use Rattle.m51_timers_uart.proofs.laws.mode_1_is_sent_in_time.Goals as goal

pub returns : goal.returns
returns c = lemmas.sent_in_time
