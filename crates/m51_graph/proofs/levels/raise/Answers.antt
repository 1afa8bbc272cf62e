use Rattle.m51_graph.proofs.Common.{◌≡◌, ◌||◌, arith}
use Rattle.m51_graph.proofs.Climbing.{climbs_none, climbs_more, level_most, ends_within}
use Rattle.m51_graph.proofs.levels.raise.Goals.{then-lift, else-lift}
use Rattle.m51_graph.proofs.levels.raise.Goals as goal

pub loop-from-init : goal.loop-from-init
loop-from-init c = climbs_none c.args.edges.now c.args.levels.now c.requires.walked

pub lift-requires : goal.lift-requires
lift-requires c =
    let within = rw (← c.loop-from.auto.levels) at c.requires.within in
    let ends = ends_within _ c.loop-from.from-index _ within c.loop-from-test.true in
    record {
      lower = ends.from;
      upper = ends.to;
      room = omega (
        arith,
        level_most _ _ within c.requires.no_cycle c.loop-from.invariant.walked _ ends.from,
        c.requires.units,
      );
    }

pub loop-from-preserved : goal.loop-from-preserved
loop-from-preserved c =
    let rose : (c.lift.result || c.loop-from.rose) ≡ c.if-lift.rose =
    elim c.if-lift.branch [
      | then-lift w ↦ rw (w.if-lift.true, w.rose-is)
      | else-lift w ↦ rw (w.if-lift.false, w.rose-is)
    ] in
    rw (← rose) (climbs_more _ c.loop-from.from-index (0, 0) _ c.loop-from.levels _ c.loop-from.rose c.lift.result
    (rw (← c.loop-from.auto.levels) at c.requires.within) c.loop-from-test.true c.lift.ensures c.loop-from.invariant)
