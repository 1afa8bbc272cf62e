use Rattle.m51_monitor.proofs.Common.{◌≤◌, length, arith, common_steps}
use Rattle.m51_monitor.proofs.Marks.{length_flags, bytes_set}
use Rattle.m51_monitor.proofs.bits.Flags.set_bytes.Goals as goal

pub fill_bytes-requires : goal.fill_bytes-requires
fill_bytes-requires c =
    let bytes = c.self.inside.bytes.items in
    let flags = rw (← c.self.view_is) at c.requires.inside in
    let inside : c.args.to ≤ length bytes = omega (arith, flags, length_flags bytes) in
    grind (arith, common_steps, inside, c.requires.order)

pub returns : goal.returns
returns c =
    let filled = c.fill_bytes.ensures in
    rw (← c.self.view_is)
    (bytes_set c.self.inside.bytes.items c.fill_bytes.new.bytes.items c.args.from c.args.to c.whole_byte.result
    c.args.value c.whole_byte.ensures filled.len filled.inside filled.below filled.above)
