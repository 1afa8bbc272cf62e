-- The lines of all parts are counted.
use Rattle.m51_disasm.proofs.Written.{all_counted}
use Rattle.m51_disasm.proofs.listing.line_count.Goals as goal

pub returns : goal.returns
returns c =
    all_counted c.args.image.now c.args.parts.now c.loop-part.part-index c.loop-part.count c.loop-part-test.false
    c.loop-part.invariant.counted
