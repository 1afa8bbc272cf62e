use Rattle.std.proofs.Common.{ap}
use Rattle.m51_timers_uart.proofs.CountsOn.{counts_on, with_levels}
use Rattle.m51_timers_uart.proofs.periph.Periph.count_cycle.Goals as goal

pub returns-clause-counting : goal.returns-clause-counting
returns-clause-counting c =
    let p = c.args.self.now in
    counts_on c.args.cpu.now c.args.ext.now p c.requires.registers c.requires.counting _
    (ap (with_levels p.levels) c.count_clocks-sent.ensures)
