use Rattle.std.proofs.Common.{map}
use Rattle.m51_cells.proofs.LineLaws.{no_more}
use Rattle.m51_cells.proofs.cutting.lines.Goals as goal

pub returns : goal.returns
returns c =
    no_more (map (λ line. line.now) c.loop-line.found.items)
    c.loop-line.rest.now c.args.text.now c.in_default.ensures.lines c.loop-line.invariant
