use Rattle.m51_monitor.proofs.Common.{◌≡◌, ◌/◌, ◌%◌, ◌<◌, length, sym, ap, ◌∙◌, arith, slice_index, common_steps}
use Rattle.std.specs.Prelude.{nat_eq}
use Rattle.std.proofs.lemmas.Nat.Bits.{shr_and_one}
use Rattle.m51_monitor.proofs.Marks.{length_flags, flag_is}
use Rattle.m51_monitor.proofs.bits.Flags.get.Goals as goal

pub returns : goal.returns
returns c =
    let bytes = c.self.inside.bytes.items in
    let flags = rw (← c.self.view_is) at c.requires in
    let inside : c.args.index / 8 < length bytes = omega (arith, flags, length_flags bytes) in
    let byte : c.index.result.now ≡ slice_index bytes (c.args.index / 8) = grind (arith, common_steps, inside) in
    rw (byte, ← c.self.view_is)
    (ap (λ bit. nat_eq bit 1) (shr_and_one (slice_index bytes (c.args.index / 8)) (c.args.index % 8))
    ∙ sym (flag_is bytes c.args.index))
