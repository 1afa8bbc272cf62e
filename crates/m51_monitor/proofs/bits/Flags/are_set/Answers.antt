use Rattle.m51_monitor.proofs.Common.{◌≡◌, ◌<◌, length, sym, ◌∙◌, arith, slice_index, common_steps, eqb-true}
use Rattle.m51_monitor.proofs.Marks.{length_flags, full_byte}
use Rattle.m51_monitor.proofs.bits.Flags.are_set.Goals as goal

pub returns : goal.returns
returns c = λ set.
    let bytes = c.self.inside.bytes.items in
    let flags = rw (← c.self.view_is) at c.requires in
    let inside : c.args.byte < length bytes = omega (arith, flags, length_flags bytes) in
    let byte : c.index.result.now ≡ slice_index bytes c.args.byte = grind (arith, common_steps, inside) in
    rw (← c.self.view_is) (full_byte bytes c.args.byte (sym byte ∙ eqb-true c.index.result.now 255 set))
