use Rattle.m51_timers_uart.proofs.CountsOn as lemmas
use Rattle.m51_timers_uart.proofs.laws.devices_count_on.Goals as goal

pub returns : goal.returns
returns c = lemmas.devices_count_on
