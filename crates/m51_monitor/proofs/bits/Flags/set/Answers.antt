use Rattle.m51_monitor.proofs.Common.{◌≡◌, ◌/◌, ◌<◌, length, arith, slice_index, common_steps}
use Rattle.m51_monitor.proofs.Marks.{length_flags, bit_set}
use Rattle.m51_monitor.proofs.bits.Flags.set.Goals as goal

pub returns : goal.returns
returns c =
    let bytes = c.self.inside.bytes.items in
    let flags = rw (← c.self.view_is) at c.requires in
    let inside : c.args.index / 8 < length bytes = omega (arith, flags, length_flags bytes) in
    let byte : c.index-byte.result.now ≡ slice_index bytes (c.args.index / 8) = grind (arith, common_steps, inside) in
    rw (← c.self.view_is)
    (bit_set bytes c.args.index c.with_flag.result c.args.value inside c.with_flag.ensures.here
    (rw byte at c.with_flag.ensures.others))
