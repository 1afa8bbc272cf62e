use Rattle.m51_emit.proofs.LoopSteps.{begins_in_memory}
use Rattle.m51_emit.proofs.fixups.push_fixups.Goals as goal

pub fixup_of-requires : goal.fixup_of-requires
fixup_of-requires c =
    begins_in_memory c.args.at c.args.len c.args.references.now c.loop-byte.byte-index _ c.requires.memory
    c.requires.inside
    c.loop-byte-test.true
