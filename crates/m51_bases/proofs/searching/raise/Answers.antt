use Rattle.std.proofs.Common.{subst}
use Rattle.m51_cells.specs.declared.extent.Extent.{Extent}
use Rattle.m51_cells.specs.Extent.{Meet}
use Rattle.m51_bases.proofs.Raised.{raised_is}
use Rattle.m51_bases.proofs.searching.raise.Goals as goal

pub returns : goal.returns
returns c =
    let meet =
    subst (λ (x : Extent). Meet c.args.e.now x) c.cells_of.ensures (c.meets.ensures.0 c.if-not-meets.false) in
    raised_is c.args.kind c.args.reloc c.args.size c.args.e.now c.args.base c.base_after.result c.requires.kind meet
    c.base_after.ensures.after c.next_fit.result c.next_fit.ensures
