use Rattle.std.proofs.Common.{◌<◌, length, slice_set, ap, ◌∙◌, rules}
use Rattle.m51_module.specs.Arguments.{marked}
use Rattle.m51_module.proofs.Raised.{mapped_more}
use Rattle.m51_module.proofs.raising.all_marked.Goals as goal

pub loop-index-preserved : goal.loop-index-preserved
loop-index-preserved c =
    let below : c.loop-index.index < length c.args.segments = search rules in
    ap (λ s. slice_set c.loop-index.segments.items c.loop-index.index s) c.marked.ensures
    ∙ mapped_more marked c.args.segments c.loop-index.segments.items c.loop-index.index c.index.result.now
    c.loop-index.invariant below c.index.ensures
