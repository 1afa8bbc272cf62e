use Rattle.m51_monitor.proofs.Common.{◌*◌, ap, ◌∙◌}
use Rattle.m51_monitor.proofs.Marks.{length_flags, all_filled}
use Rattle.m51_monitor.proofs.bits.Flags.filled.Goals as goal

pub returns-clause-len : goal.returns-clause-len
returns-clause-len c = length_flags c.in_ok-bytes.bytes.items ∙ ap (λ n. 8 * n) c.in_ok-bytes.ensures.len

pub returns-clause-each : goal.returns-clause-each
returns-clause-each c =
    all_filled c.in_ok-bytes.bytes.items c.args.count c.whole_byte.result c.args.value c.in_ok-bytes.ensures.each
    c.whole_byte.ensures
