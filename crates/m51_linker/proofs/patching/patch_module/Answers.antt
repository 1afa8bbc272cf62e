use Rattle.m51_graph.proofs.Drawn.{listed}
use Rattle.m51_linker.specs.Broken.{broken_spot}
use Rattle.m51_linker.specs.Image.{placed_field}
use Rattle.m51_linker.specs.Memory.{image_at}
use Rattle.m51_linker.proofs.Earliest.{least_more}
use Rattle.m51_linker.proofs.Rooms.{fixup_placed}
use Rattle.m51_linker.proofs.Steps.{fixup_written}
use Rattle.m51_linker.proofs.patching.patch_module.Goals as goal

pub patch_fixup-spot-requires-clause-placed : goal.patch_fixup-spot-requires-clause-placed
patch_fixup-spot-requires-clause-placed c =
    fixup_placed c.args.joined.now c.args.placing.now c.requires.placed c.args.module c.args.parts.now c.requires.there
    _ (listed c.fixups-fixup-items.result.now c.args.parts.now.fixups c.loop-fixup.fixup-index _
    c.fixups-fixup-items.ensures.list c.loop-fixup-test.true)

pub loop-fixup-preserved : goal.loop-fixup-preserved
loop-fixup-preserved c =
    let fixups = c.fixups-fixup-items.result.now in
    let i = c.loop-fixup.fixup-index in
    record {
      put = fixup_written (placed_field c.args.joined.now c.args.placing.now c.args.module) fixups i _
          (image_at c.args.image.now) (image_at c.loop-fixup.image)
          (image_at c.patch_fixup-spot.new.image) c.loop-fixup-test.true c.loop-fixup.invariant.put
          c.patch_fixup-spot.ensures.put;
      broken = least_more (broken_spot c.args.joined.now c.args.placing.now c.args.module) fixups i _
          c.loop-fixup.broken c.patch_fixup-spot.result
          c.earlier_of-broken.result c.loop-fixup-test.true c.loop-fixup.invariant.broken
          c.patch_fixup-spot.ensures.broken c.earlier_of-broken.ensures;
    }
