use Rattle.m51_stackbound.proofs.Common.{take_more, Contains-get_or}
use Rattle.m51_stackbound.proofs.Deciding.{rows_more}
use Rattle.m51_stackbound.proofs.listing.roots_of.Goals as goal

pub root_number-root-requires : goal.root_number-root-requires
root_number-root-requires c =
    c.requires.handlers _
    (Contains-get_or c.args.vectors.now c.loop-vector.vector-index 0 c.loop-vector-test.true)

pub loop-vector-preserved : goal.loop-vector-preserved
loop-vector-preserved c =
    rw (
      c.in_ok-push-2.ensures.items,
      take_more c.args.vectors.now c.loop-vector.vector-index 0 c.loop-vector-test.true,
    )
    (rows_more _ _ _ _ _ _ _ c.loop-vector.invariant
    (record { root = c.root_number-root.result; is_root = c.root_number-root.ensures; row = c.in_ok-handler.ensures }))
