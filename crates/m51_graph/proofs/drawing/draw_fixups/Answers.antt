use Rattle.m51_resolve.proofs.Referring.{fixup_there}
use Rattle.m51_graph.proofs.Drawn.{listed}
use Rattle.m51_graph.proofs.drawing.draw_fixups.Goals as goal

pub fixup_edge-requires-clause-there : goal.fixup_edge-requires-clause-there
fixup_edge-requires-clause-there c =
    fixup_there c.args.joined.now c.args.module c.args.parts.now c.requires.there _ c.fixups-fixup-items.ensures.valid
    (listed c.fixups-fixup-items.result.now c.args.parts.now.fixups c.loop-fixup.fixup-index _
    c.fixups-fixup-items.ensures.list c.loop-fixup-test.true)
